use Rattle.std.proofs.Common.{arith, ◌∙◌}
use Rattle.tv_frame.proofs.PlanLevels.{planned-levels}
use Rattle.tv_frame.proofs.tables.levels_of.Goals as goal

pub returns : goal.returns
returns c =
    c.loop-step.invariant
    ∙ planned-levels c.args.plan.now c.as_slice-steps.result.now c.loop-step.step-index c.as_slice-steps.ensures
    (omega (arith, c.loop-step-test.false))
