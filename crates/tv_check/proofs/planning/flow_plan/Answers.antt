use Rattle.std.proofs.Common.{◌∙◌, sym, subst, map}
use Rattle.tv_flow.specs.Views.{flow_view}
use Rattle.tv_check.specs.PlanViews.{step_plan_view, IsOfDocument}
use Rattle.tv_check.proofs.PlanLemmas.{plan-made}
use Rattle.tv_check.proofs.planning.flow_plan.Goals as goal

pub invariant_of-result : goal.invariant_of-result
invariant_of-result c =
    let same = c.in_ok-flow.ensures in
    record {
      kept = (
        plan-made (flow_view c.args.flow.now) (flow_view c.in_ok-flow.flow) (map step_plan_view c.in_ok-steps.steps) c.in_ok-outputs.outputs c.in_ok-wiring.wiring same c.in_ok-steps.ensures (c.in_ok-outputs.ensures ∙ c.requires.planned.measured.outputs_are) c.in_ok-wiring.ensures,
        subst IsOfDocument (sym same) c.requires.accepted,
      );
    }
