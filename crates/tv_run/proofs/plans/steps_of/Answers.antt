use Rattle.std.specs.Prelude.{◌+◌, map}
use Rattle.std.proofs.Common.{ap, arith, subst, sym}
use Rattle.tv_flow.specs.Views.{activity_view, each, flow_view, step_view}
use Rattle.tv_model.specs.Opening.{first_nested}
use Rattle.tv_run.specs.Looks.{OpensNumber}
use Rattle.tv_run.specs.declared.plans.StepLook.{StepLook}
use Rattle.tv_run.proofs.Looking.{AreStepsSoFar, all-steps, one-step}
use Rattle.tv_run.proofs.plans.steps_of.Goals as goal

pub loop-step-preserved : goal.loop-step-preserved
loop-step-preserved c d are =
    let steps = c.as_slice-steps.result.now in
    let k = c.loop-step.step-index in
    let x : StepLook = record { tries = c.in_ok-tries_of.field-0; opens = c.opened_by.result } in
    let opens =
    subst (λ l. OpensNumber d (first_nested (map activity_view l)) c.opened_by.result) c.as_slice.ensures
    (c.opened_by.ensures d are) in
    subst (λ l. AreStepsSoFar d steps l (k + 1)) (sym c.in_ok-push.ensures.items)
    (one-step d steps c.loop-step.looks.items k c.step-item.result x (omega (arith, c.loop-step-test.true)) c.step-item.is
    (record { tries = c.in_ok-tries_of.ensures; opens = opens }) (c.loop-step.invariant d are))

pub returns : goal.returns
returns c d are =
    all-steps d c.as_slice-steps.result.now (flow_view c.args.plan.now.flow)
    (sym (ap (each step_view) c.as_slice-steps.ensures)) c.loop-step.looks.items c.loop-step.step-index
    (omega (arith, c.loop-step-test.false)) (c.loop-step.invariant d are)
