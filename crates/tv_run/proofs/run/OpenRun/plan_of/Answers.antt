use Rattle.std.specs.Prelude.{ℕ, Some, slice_get}
use Rattle.std.proofs.Common.{ap, get_or, length, refl, subst, sym, ◌<◌, ◌≡◌, ◌∙◌}
use Rattle.std.proofs.lemmas.Option.{same_Some, slice_get_read, slice_get_within}
use Rattle.tv_lemmas.proofs.Lists.{get-within, get-map}
use Rattle.tv_value.specs.Values.{Name}
use Rattle.tv_flow.specs.Flows.{Flow}
use Rattle.tv_check.specs.FlowPlanViews.{flow_plan_view}
use Rattle.tv_check.specs.Plans as plans
use Rattle.tv_check.specs.RunViews.{run_view}
use Rattle.tv_instances.specs.Forest.{Instances}
use Rattle.tv_run.specs.Standing.{Fits}
use Rattle.tv_run.specs.declared.instances.Instance as code
use Rattle.tv_run.specs.declared.run.OpenRun.{OpenRun}
use Rattle.tv_run.proofs.Steps.{flow-there}
use Rattle.tv_run.proofs.run.OpenRun.plan_of.Goals as goal

here : (r : OpenRun) (xs : Instances) → Fits r xs → (i : ℕ) → i < length xs → (c : code.Instance)
    → c ≡ get_or r.instances.items i c → slice_get r.instances.items i ≡ Some c
here r xs fits i low c is =
    slice_get_read r.instances.items (length r.instances.items) i c refl (subst (λ n. i < n) (sym fits.as_many) low) is

pub flow-requires : goal.flow-requires
flow-requires c =
    let r = c.args.self.now in
    let q = c.requires in
    let i = c.args.instance in
    let itself = c.index.result.now in
    let x = get-within q.0 i q.2 in
    let f = flow-there r q.0 q.1 i x.0 x.1 itself (here r q.0 q.1 i q.2 itself c.index.ensures) in
    slice_get_within (run_view r.run).flows itself.flow f.0 f.1

pub returns : goal.returns
returns c = λ xs x fits at.
    let r = c.args.self.now in
    let i = c.args.instance in
    let itself = c.index.result.now in
    let plan = c.flow.result.now in
    let f =
    flow-there r xs fits i x at itself (here r xs fits i (slice_get_within xs i x at) itself c.index.ensures) in
    let same =
    same_Some (flow_plan_view plan) (plans.flow_plan f.0.1)
    (sym c.flow.ensures
    ∙ get-map (λ (g : Name × Flow). plans.flow_plan g.1) (run_view r.run).flows itself.flow f.0 f.1) in
    ap (λ (p : plans.FlowPlan). p.flow) same ∙ f.2
