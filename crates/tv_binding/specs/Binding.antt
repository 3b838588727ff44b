-- The laws of what jobs bind and of what a flow's outputs are: what is found is what is delivered, whatever isn't known yet.
use Rattle.std.specs.Prelude.{◌≡◌, ℕ, List, map, Option, Some, slice_get, unwrap_or}
use Rattle.tv_value.specs.Nested.{Place, at}
use Rattle.tv_value.specs.Values.{Name, Value}
use Rattle.tv_value.specs.Views.{strategy_view}
use Rattle.tv_strategy.specs.Conditions.{number_of}
use Rattle.tv_strategy.specs.Splits.{split}
use Rattle.tv_naming.specs.Naming.{numbered}
use Rattle.tv_check.specs.declared.feeds.NumberedFeed.{NumberedFeed}
use Rattle.tv_check.specs.declared.ports.Port.{Port}
use Rattle.tv_binding.specs.Constants.{FlowConstants, constant_of_port, constant_of_output}
use Rattle.tv_binding.specs.Delivered.{FlowValues, IsKnownOf, no_items, feed_value, wrapped_value}
use Rattle.tv_binding.specs.Found.{Known}
use Rattle.tv_binding.specs.Jobs.{wraps, job_found, outputs_found}
use Rattle.tv_binding.specs.declared.jobs.StepPorts.{StepPorts}

-- what a feed delivers in the end, where this is its constant, if it is one
abbrev pub delivered_by : FlowValues → NumberedFeed → Option Value → Value
delivered_by d f c = feed_value d f (unwrap_or c no_items)

-- the n-th port binds what stands in the value that its feed delivers, at the place of its leaf, in so many one-item lists
pub record IsBoundBy (d : FlowValues) (cs : FlowConstants) (s : StepPorts) (q : Place) (n : ℕ)
    (p : Port) (v : Value) : Type 0 where
  pub leaf : Name × Place
  pub at_leaf : slice_get (split (number_of s.mismatch.now) (strategy_view s.tree.now) q) p.leaf
      ≡ Some leaf
  pub inside : Value
  pub stands : at (delivered_by d p.feed (constant_of_port cs s.number n)) leaf.1 ≡ Some inside
  pub wrapped : v ≡ wrapped_value (wraps s.inputs.now s.delivered.now n) inside

-- the job at a place of a step's iteration binds at each port what is delivered there
abbrev pub JobsBindWhatIsDelivered : Type 0
JobsBindWhatIsDelivered =
    (d : FlowValues) (k : Known) → IsKnownOf d k → (cs : FlowConstants) (s : StepPorts) (q : Place)
    (vs : List Value)
    → job_found k cs s q ≡ Some vs
    → (n : ℕ) (p : Port) (v : Value) → slice_get s.ports.now n ≡ Some p → slice_get vs n ≡ Some v
    → IsBoundBy d cs s q n p v

-- the outputs that are found are those that are delivered
abbrev pub OutputsAreDelivered : Type 0
OutputsAreDelivered =
    (d : FlowValues) (k : Known) → IsKnownOf d k → (cs : FlowConstants) (fs : List NumberedFeed)
    (vs : List Value)
    → outputs_found k cs fs ≡ Some vs
    → vs ≡ map (λ x. delivered_by d x.1 (constant_of_output cs x.0)) (numbered 0 fs)
