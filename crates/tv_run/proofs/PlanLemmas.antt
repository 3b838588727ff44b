-- Each flow of a checked run has a plan.
use Rattle.std.specs.Prelude.{◌≡◌, refl, ℕ, None, Option, Some, option_map, slice_get}
use Rattle.std.proofs.Common.{ap, ◌∙◌}
use Rattle.std.proofs.lemmas.Option.{none-some, same_Some}
use Rattle.tv_value.specs.Values.{Name}
use Rattle.tv_flow.specs.Flows.{Flow}
use Rattle.tv_flow.specs.Views.{flow_view}
use Rattle.tv_check.specs.FlowPlanViews.{flow_plan_view}
use Rattle.tv_check.specs.Plans.{flow_plan}
use Rattle.tv_check.specs.RunViews.{run_view}
use Rattle.tv_check.specs.declared.plans.FlowPlan.{FlowPlan}
use Rattle.tv_check.specs.declared.run.CheckedRun.{CheckedRun}
use Rattle.tv_run.specs.Looks.{IsFlow}
use Rattle.tv_lemmas.proofs.Lists.{of-image, get-map}

pub plan-there : (run : CheckedRun) (k : ℕ) (f : Flow) → IsFlow (run_view run) k f
    → (p : FlowPlan) × (flow_view p.flow ≡ f)
plan-there run k f h = by (slice_get (run_view run).flows k) refl h
  where
    by : (o : Option (Name × Flow)) → slice_get (run_view run).flows k ≡ o → option_map (λ x. x.1) o ≡ Some f
        → (p : FlowPlan) × (flow_view p.flow ≡ f)
    by None e h = absurd (none-some f h)
    by (Some g) e h =
        let w =
        of-image flow_plan_view run.plans k (flow_plan g.1)
        (ap (λ l. slice_get l k) run.kept.1.0
        ∙ get-map (λ (x : Name × Flow). flow_plan x.1) (run_view run).flows k g e) in
        (w.0, ap (λ q. q.flow) w.2 ∙ same_Some g.1 f h)
