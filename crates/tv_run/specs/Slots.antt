-- A list of one, in which an instance has started.
use Rattle.std.specs.Global.{Global}
use Rattle.std.specs.Prelude.{List, Vec, [], length, ◌∷◌, ◌≡◌}
use Rattle.tv_value.specs.Values.{Value}
use Rattle.tv_flow.specs.Flows.{Document}
use Rattle.tv_pool.specs.Pool.{number_of}
use Rattle.tv_stream.specs.nodes.Calls.{KeepsRegions}
use Rattle.tv_check.specs.declared.plans.FlowPlan.{FlowPlan}
use Rattle.tv_outputs.specs.Known.{Nodes}
use Rattle.tv_frame.specs.Calls.{CanStart}
use Rattle.tv_instances.specs.Standing.{StartsOpen}
use Rattle.tv_instances.specs.declared.open.Open.{Open}

-- its one instance is that of the plan's flow on these values, told nothing, in a region that is new
pub record HoldsStarted (plan : FlowPlan) (values : List Value) (pool after : Nodes)
    (slot : Vec Open Global) : Type 0 where
  pub itself : Open
  pub is_one : slot.items ≡ itself ∷ []
  pub starts : (d : Document) → CanStart d.flows plan values → StartsOpen d plan values after itself
  pub own : number_of itself.frame.region ≡ length pool.regions
  pub keeps : KeepsRegions pool after (number_of itself.frame.region)
