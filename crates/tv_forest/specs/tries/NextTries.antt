-- What a job does next after a history, where its plan has the next try.
use Rattle.std.specs.Prelude.{Err, None, Ok, Some, [], false, slice_get, true, ℕ, ◌∷◌, ◌≡◌}
use Rattle.tv_value.specs.Activities.{nested}
use Rattle.tv_value.specs.Values.{Name, Text}
use Rattle.tv_gate.specs.Outcomes.{Giving}
use Rattle.tv_flow.specs.Flows.{Document, Step}
use Rattle.tv_dispatch.specs.Jobs.{Ask, error_results, outcome_of}
use Rattle.tv_dispatch.specs.Plans.{came_right, first_next, next_after}
use Rattle.tv_dispatch.specs.declared.plan.Next.{Next}
use Rattle.tv_dispatch.specs.declared.plan.Next.TheVariants as next
use Rattle.tv_dispatch.specs.declared.plan.Plan.{Plan}
use Rattle.tv_model.specs.instance.Steps.{declared_depths}
use Rattle.tv_model.specs.Jobs.{Job, failed_end, good_end}
use Rattle.tv_model.specs.Meanings.{meaning}
use Rattle.tv_history.specs.Entries.{Entry, History, accepted}
use Rattle.tv_history.specs.Histories.{is_legal_after, is_settled, next_ask}
use Rattle.tv_history.specs.activities.Activities.{last_activity}
use Rattle.tv_forest.specs.tries.Steps.{IsAskOf}

-- it asks attempt t at activity a
pub record AsksNext (past : History) (j : Job) (s : Step) (a t : ℕ) : Type 0 where
  pub ask : Ask
  pub is_next : next_ask past j ≡ Some ask
  pub of_step : IsAskOf s j a t ask
  pub unsettled : is_settled past j ≡ false

-- it asks nothing more, and is to open the flow of activity a
pub record OpensNext (past : History) (j : Job) (s : Step) (a : ℕ) : Type 0 where
  pub no_ask : next_ask past j ≡ None
  pub flow : Name
  pub opens : j.opens ≡ Some flow
  pub of_step : slice_get s.activities a ≡ Some (nested flow)

-- it is settled without a flow
pub record IsOver (past : History) (j : Job) : Type 0 where
  pub no_ask : next_ask past j ≡ None
  pub settled : is_settled past j ≡ true
  pub no_flow : j.opens ≡ None

-- it is settled by the right outcome of this ask
pub record IsRight (gives : Giving) (past : History) (j : Job) (k : Ask) : Type 0 where
  pub over : IsOver past j
  pub ending : j.ending ≡ good_end
  pub result : outcome_of gives k ≡ Ok j.result

-- it is settled with the reason of this ask, its last
pub record IsWrong (gives : Giving) (past : History) (j : Job) (s : Step) (k : Ask) : Type 0 where
  pub over : IsOver past j
  pub ending : j.ending ≡ failed_end
  pub why : Text
  pub reason : outcome_of gives k ≡ Err why
  pub result : j.result ≡ error_results j.name why [] (declared_depths s)

-- the entry that accepts the outcome that the services give
abbrev pub accepting : Giving → Job → Ask → Entry
accepting gives j k = accepted j.name k.activity k.attempt (came_right gives k)

-- what the plan says comes first, where no outcome was accepted yet
pub record IsFirst (past : History) (j : Job) (s : Step) (p : Plan) : Type 0 where
  pub asks : (a t : ℕ) → first_next p false ≡ next.Ask a t → AsksNext past j s a t
  pub nests : (a : ℕ) → first_next p false ≡ next.Nest a → OpensNext past j s a
  pub not_failed : first_next p false ≡ next.Failed → ⊥
  pub not_done : first_next p false ≡ next.Done → ⊥
  pub not_bounced : first_next p false ≡ next.Bounce → ⊥

-- the activity of the flow that the plan says comes next is the one after the last that is asked. (Of OpensNext alone it
-- isn't so: a later activity may name the same flow.)
pub record FlowComesAfterAsks (past : History) (j : Job) (p : Plan) : Type 0 where
  pub first : (a : ℕ) → first_next p false ≡ next.Nest a → a ≡ last_activity j.asks
  pub later :
      (k : Ask) (a : ℕ) → next_ask past j ≡ Some k
      → next_after p k.activity k.attempt false ≡ next.Nest a
      → a ≡ last_activity j.asks

-- what the plan says comes after this ask
abbrev pub said_after : Giving → Plan → Ask → Next
said_after gives p k = next_after p k.activity k.attempt (came_right gives k)

-- with the outcome of this ask, the next one, it does what the plan says comes after it
pub record IsAfter (gives : Giving) (d : Document) (past : History) (j : Job) (s : Step) (p : Plan)
    (k : Ask) : Type 0 where
  pub of_step : IsAskOf s j k.activity k.attempt k
  pub legal : is_legal_after gives (meaning gives d) past (accepting gives j k) ≡ true
  pub asks :
      (a t : ℕ) → said_after gives p k ≡ next.Ask a t
      → AsksNext (accepting gives j k ∷ past) j s a t
  pub nests :
      (a : ℕ) → said_after gives p k ≡ next.Nest a
      → OpensNext (accepting gives j k ∷ past) j s a
  pub unsettled :
      (a : ℕ) → said_after gives p k ≡ next.Nest a
      → is_settled (accepting gives j k ∷ past) j ≡ false
  pub right : said_after gives p k ≡ next.Done → IsRight gives (accepting gives j k ∷ past) j k
  pub wrong : said_after gives p k ≡ next.Failed → IsWrong gives (accepting gives j k ∷ past) j s k
  pub not_bounced : said_after gives p k ≡ next.Bounce → ⊥
