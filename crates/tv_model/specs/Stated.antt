-- The laws of meanings, for every flow and all services.
use Rattle.std.specs.Prelude.{List, [], count_by, length, sum_by, ℕ, ◌≡◌}
use Rattle.tv_value.specs.Values.{JobName, Name, Value}
use Rattle.tv_gate.specs.Outcomes.{Giving}
use Rattle.tv_flow.specs.Flows.{Flow}
use Rattle.tv_model.specs.instance.Ranks.{ranked}
use Rattle.tv_model.specs.Asked.{IsOrdered}
use Rattle.tv_model.specs.Earlier.{NeedEarlier}
use Rattle.tv_model.specs.Instances.{given_of, steps_made}
use Rattle.tv_model.specs.Jobs.{Job}
use Rattle.tv_model.specs.Made.{Meaning}
use Rattle.tv_model.specs.Meanings.{flow_meaning}
use Rattle.tv_model.specs.Totals.{Totals, totals}
use Rattle.tv_model.specs.Turns.{is_bounced, is_failed}

-- the needs of a job name only jobs of the same instance, of steps that were taken earlier
abbrev pub NeedsAreEarlier : Type 0
NeedsAreEarlier =
    (gives : Giving) (inside : Name → JobName → List (Name × Value) → Meaning)
    (instance : JobName) (flow : Flow) (vs : List (Name × Value))
    → NeedEarlier (steps_made gives inside instance (given_of flow vs) [] (ranked flow.steps))

-- the order of one worker has the asks of all jobs and no others, each as often
abbrev pub OrderHasAllAsks : Type 0
OrderHasAllAsks =
    (gives : Giving) (flows : List (Name × Flow)) (depth : ℕ) (f : Name)
    (instance : JobName) (vs : List (Name × Value))
    → IsOrdered (flow_meaning gives flows depth f instance vs) instance

pub record AreSums (js : List Job) (t : Totals) : Type 0 where
  pub attempts : t.attempts ≡ sum_by (λ j. length j.asks) js
  pub bounced : t.bounced ≡ count_by (λ j. is_bounced j.ending) js
  pub failed : t.failed ≡ count_by (λ j. is_failed j.ending) js
  pub jobs : t.jobs ≡ length js

-- the totals are sums over the jobs
abbrev pub TotalsAreSums : Type 0
TotalsAreSums = (js : List Job) → AreSums js (totals js)
