use Rattle.std.proofs.Common.{◌≡◌, take, map}
use Rattle.tv_flow.specs.Views.{flow_view}
use Rattle.tv_check.specs.PlanViews.{step_plan_view}
use Rattle.tv_check.specs.Plans.{step_plan}
use Rattle.tv_check.proofs.planning.step_plans.Given as goal

abbrev pub invariant-loop-number : goal.invariant-loop-number
invariant-loop-number l = map step_plan_view l.plans.items ≡ map (step_plan (flow_view l.flow)) (take l.number (flow_view l.flow).steps)
