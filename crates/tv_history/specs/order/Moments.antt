-- A document's run after a history: the words in which the laws speak.
use Rattle.std.specs.Prelude.{Bool, List, [], false, true, ℕ, ◌&&◌, ◌++◌, ◌||◌, ◌∷◌, ◌≡◌}
use Rattle.tv_lemmas.specs.Members.{In}
use Rattle.tv_value.specs.Nested.{Place}
use Rattle.tv_value.specs.Orders.{same_job, same_name}
use Rattle.tv_value.specs.Values.{JobName, Name}
use Rattle.tv_gate.specs.Outcomes.{Giving}
use Rattle.tv_flow.specs.Flows.{Document}
use Rattle.tv_model.specs.Jobs.{Job}
use Rattle.tv_model.specs.Meanings.{meaning}
use Rattle.tv_history.specs.Entries.{History}
use Rattle.tv_history.specs.Histories.{can_open, can_settle_more, is_legal, is_offered, is_open, out_count}

-- the job j stands at the spot x of the instance I
abbrev pub StandsAt : Job → JobName → Name × Place → Type 0
StandsAt j I x = j.name ≡ I ++ x ∷ []

-- k is of the instance and step of j
abbrev pub is_beside : Job → Job → Bool
is_beside j k = same_job k.instance j.instance && same_name k.step j.step

abbrev pub IsOpen : History → JobName → Type 0
IsOpen past I = is_open past I ≡ true

module _ (gives : Giving) (d : Document) where
  abbrev pub all_jobs : List Job
  all_jobs = (meaning gives d).jobs

  abbrev pub IsJob : Job → Type 0
  IsJob j = In j all_jobs

  module _ (past : History) where
    abbrev pub IsLegal : Type 0
    IsLegal = is_legal gives (meaning gives d) past ≡ true

    -- nothing can be bounced, closed, passed or ended
    abbrev pub IsQuiet : Type 0
    IsQuiet = can_settle_more (meaning gives d) past ≡ false

    abbrev pub has_offer : Job → Bool
    has_offer j = is_offered (meaning gives d) past j

    -- its ask is offered, or its flow can be opened
    abbrev pub goes_on : Job → Bool
    goes_on j = is_offered (meaning gives d) past j || can_open (meaning gives d) past j

    abbrev pub tries_out : ℕ
    tries_out = out_count (meaning gives d) past
