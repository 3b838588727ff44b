-- The plan of a flow by the flow's number.
use Rattle.std.specs.Prelude.{◌≡◌, ℕ, Some, option_map, slice_get}
use Rattle.std.proofs.Common.{ap, sym, ◌∙◌}
use Rattle.std.proofs.lemmas.Option.{same_Some}
use Rattle.tv_value.specs.Values.{Name}
use Rattle.tv_flow.specs.Flows.{Document, Flow}
use Rattle.tv_flow.specs.Views.{flow_view}
use Rattle.tv_check.specs.FlowPlanViews.{flow_plan_view}
use Rattle.tv_check.specs.Plans.{flow_plan, flow_plans}
use Rattle.tv_check.specs.declared.plans.FlowPlan.{FlowPlan}
use Rattle.tv_run.specs.Looks.{IsFlow}
use Rattle.tv_lemmas.proofs.Lists.{of-image}

-- it is a plan of that flow
pub plan-flow : (d : Document) (k : ℕ) (f : Flow) (p : FlowPlan) → IsFlow d k f
    → slice_get (flow_plans d) k ≡ Some (flow_plan_view p) → flow_view p.flow ≡ f
plan-flow d k f p h e =
    let w = of-image (λ (g : Name × Flow). flow_plan g.1) d.flows k (flow_plan_view p) e in
    let found : w.0.1 ≡ f = same_Some w.0.1 f (sym (ap (option_map (λ (g : Name × Flow). g.1)) w.1) ∙ h) in
    sym (ap (λ q. q.flow) w.2) ∙ found
