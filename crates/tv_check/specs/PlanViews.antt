-- The plans that the types of the code stand for, and what these types keep.
use Rattle.std.specs.Prelude.{◌≡◌, true, Some}
use Rattle.std.specs.Coded.{Coded-set, ×_prop}
use Rattle.std.proofs.Math.Logic.{∥∥₁_prop}
use Rattle.tv_value.specs.Values.{Name}
use Rattle.tv_value.specs.Orders.{named}
use Rattle.tv_value.specs.Views.{strategy_view}
use Rattle.tv_flow.specs.Flows.{Flow, Document}
use Rattle.tv_flow.specs.Formed.{is_formed}
use Rattle.tv_check.specs.declared.plans.StepPlan.{StepPlan}
use Rattle.tv_check.specs.Plans as plan
use Rattle.tv_check.specs.Codes.{coded_flow_plan}

abbrev pub step_plan_view : StepPlan → plan.StepPlan
step_plan_view p = record {
  rank = p.rank;
  tree = strategy_view p.tree;
  depth = p.depth;
  delivered = p.delivered;
  mismatch = p.mismatch;
}

-- an accepted document has this flow
abbrev pub IsOfDocument : Flow → Type 0
IsOfDocument f = ∥ ((d : Document)
    × ((n : Name) × (is_formed d ≡ true) × plan.IsAccepted d × (named n d.flows ≡ Some f))) ∥₁

-- it is the plan of its flow, which stands in an accepted document
abbrev pub IsFlowPlan : plan.FlowPlan → Type 0
IsFlowPlan p = (p ≡ plan.flow_plan p.flow) × IsOfDocument p.flow

pub IsFlowPlan-prop : (p : plan.FlowPlan) → IsProp (IsFlowPlan p)
IsFlowPlan-prop p = ×_prop (Coded-set coded_flow_plan _ _) ∥∥₁_prop
