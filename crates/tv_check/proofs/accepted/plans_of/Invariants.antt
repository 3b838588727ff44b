use Rattle.std.proofs.Common.{◌≡◌, map, take}
use Rattle.tv_flow.specs.Views.{flow_view}
use Rattle.tv_check.specs.FlowPlanViews.{flow_plan_view}
use Rattle.tv_check.specs.Plans.{flow_plan}
use Rattle.tv_check.proofs.accepted.plans_of.Given as goal

abbrev pub invariant-loop-number : goal.invariant-loop-number
invariant-loop-number l = map flow_plan_view l.plans.items ≡ map (λ e. flow_plan (flow_view e.1)) (take l.number l.flows)
