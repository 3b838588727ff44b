use Rattle.std.specs.Prelude.{◌+◌, option_map}
use Rattle.std.proofs.Common.{ap, arith, subst, sym}
use Rattle.tv_value.specs.Values.{Name}
use Rattle.tv_flow.specs.Flows.{Flow}
use Rattle.tv_check.specs.RunViews.{run_view}
use Rattle.tv_run.specs.Looks.{IsLook}
use Rattle.tv_run.specs.declared.plans.FlowLook.{FlowLook}
use Rattle.tv_run.proofs.FlowPlans.{plan-flow}
use Rattle.tv_run.proofs.Looking.{AreFlowsSoFar, flows-are, one-flow}
use Rattle.tv_run.proofs.plans.looks_of.Goals as goal

pub look_of-requires : goal.look_of-requires
look_of-requires c =
    (run_view c.args.run.now, flows-are c.args.run.now c.document.result.now c.document.ensures.view)

pub loop-number-preserved : goal.loop-number-preserved
loop-number-preserved c =
    let d = run_view c.args.run.now in
    let end = c.flows-number-end.ensures in
    let x : FlowLook = c.in_ok-look_of.field-0 in
    let so_far =
    one-flow d c.loop-number.looks.items c.loop-number.number x (omega (arith, c.loop-number-test.true, end))
    (λ f at.
    subst (λ g. IsLook d g x)
    (plan-flow d c.loop-number.number f.1 c.flow.result.now (ap (option_map (λ (g : Name × Flow). g.1)) at) c.flow.ensures)
    (c.in_ok-look_of.ensures d (flows-are c.args.run.now c.document.result.now c.document.ensures.view)))
    c.loop-number.invariant in
    subst (λ l. AreFlowsSoFar d l (c.loop-number.number + 1)) (sym c.in_ok-push.ensures.items) so_far
