-- What the form of a document says of activities, and which jobs are ready.
use Rattle.std.specs.Prelude.{List, filter, length, map, ◌≤◌}
use Rattle.tv_lemmas.specs.Members.{Each}
use Rattle.tv_value.specs.Values.{JobName}
use Rattle.tv_flow.specs.Flows.{Document}
use Rattle.tv_model.specs.Made.{Meaning}
use Rattle.tv_history.specs.Entries.{History}
use Rattle.tv_history.specs.Histories.{is_ready}

-- what the form of a document says: every step has an activity
pub record HasActivities (d : Document) : Type 0 where
  pub activities : Each (λ f. Each (λ s. 1 ≤ length s.1.activities) f.1.steps) d.flows

module _ (m : Meaning) (past : History) where
  -- the jobs that are ready, in job order
  abbrev pub ready : List JobName
  ready = map (λ j. j.name) (filter (is_ready m past) m.jobs)
