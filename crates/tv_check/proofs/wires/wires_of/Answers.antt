use Rattle.std.proofs.Common.{◌∙◌, ap, length}
use Rattle.tv_check.specs.Turned.{step_wires, all_wires, with_items}
use Rattle.tv_check.proofs.Turning.{brought-more, brought-all, turned}
use Rattle.tv_check.proofs.wires.wires_of.Goals as goal

pub loop-step-preserved : goal.loop-step-preserved
loop-step-preserved c =
    brought-more step_wires _ c.loop-step.rows c.push_ports.new.rows c.args.ports.now c.loop-step.step c.index-ports-step.result c.loop-step-test.true c.index-ports-step.is c.loop-step.invariant (c.in_ok-push_ports.ensures ∙ ap (λ ps. with_items c.loop-step.rows (step_wires (c.loop-step.step, ps))) c.as_slice.ensures)

pub returns : goal.returns
returns c = brought-all step_wires _ c.loop-step.rows c.args.ports.now c.loop-step.step c.loop-step-test.false c.loop-step.invariant ∙ turned (length c.args.ports.now) (all_wires c.args.ports.now)
