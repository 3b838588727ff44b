-- The numbers that are read off a finished history.
use Rattle.std.specs.List.{list_any}
use Rattle.std.specs.Prelude.{Bool, List, None, Option, Some, count_by, is_some, length, map, not, true, ◌&&◌, ◌≡◌}
use Rattle.tv_lemmas.specs.Members.{In}
use Rattle.tv_value.specs.Values.{JobName}
use Rattle.tv_gate.specs.Outcomes.{Giving}
use Rattle.tv_model.specs.Jobs.{Job}
use Rattle.tv_model.specs.Made.{Meaning}
use Rattle.tv_model.specs.Totals.{Totals, totals}
use Rattle.tv_history.specs.Entries.{Entry, History, accepted, bounced, is_bounced_entry, is_opened_entry}
use Rattle.tv_history.specs.Histories.{is_settled}
use Rattle.tv_history.specs.Tries.{key_of, tries_of}

abbrev pub accepted_name : Entry → Option JobName
accepted_name (accepted n a t r) = Some n
accepted_name _ = None

abbrev pub bounced_name : Entry → Option JobName
bounced_name (bounced n) = Some n
bounced_name _ = None

-- a job that was neither bounced nor opened a flow, and has no right outcome
abbrev pub has_failed : History → JobName → Bool
has_failed past n =
    not (list_any (is_bounced_entry n) past)
    && not (list_any (is_opened_entry n) past)
    && not (list_any (λ k. k.2) (tries_of n past))

abbrev pub read_totals : History → List Job → Totals
read_totals past js = record {
  attempts = count_by (λ e. is_some (accepted_name e)) past;
  bounced = count_by (λ e. is_some (bounced_name e)) past;
  failed = count_by (λ j. has_failed past j.name) js;
  jobs = length js;
}

-- DONE MEANS THE MEANING: in a legal history in which the main instance has ended
pub record IsAsMeant (gives : Giving) (m : Meaning) (past : History) : Type 0 where
  pub settled : (j : Job) → In j m.jobs → is_settled past j ≡ true
  -- the accepted tries of each job are its asks, in order
  pub tries : (j : Job) → In j m.jobs → tries_of j.name past ≡ map (key_of gives) j.asks
  -- the numbers of accepted and bounced entries and of failed jobs are the totals
  pub numbers : read_totals past m.jobs ≡ totals m.jobs
