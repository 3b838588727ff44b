use Rattle.std.proofs.Common.{◌∙◌, ap, length}
use Rattle.tv_check.specs.Turned.{waits_of, all_waits, with_items}
use Rattle.tv_check.proofs.Turning.{brought-more, brought-all, turned}
use Rattle.tv_check.proofs.wires.dependents_of.Goals as goal

pub loop-step-preserved : goal.loop-step-preserved
loop-step-preserved c =
    brought-more waits_of _ c.loop-step.rows c.push_waits.new.rows c.args.after.now c.loop-step.step c.index-after-step.result c.loop-step-test.true c.index-after-step.is c.loop-step.invariant (c.in_ok-push_waits.ensures ∙ ap (λ ns. with_items c.loop-step.rows (waits_of (c.loop-step.step, ns))) c.as_slice.ensures)

pub returns : goal.returns
returns c = brought-all waits_of _ c.loop-step.rows c.args.after.now c.loop-step.step c.loop-step-test.false c.loop-step.invariant ∙ turned (length c.args.after.now) (all_waits c.args.after.now)
