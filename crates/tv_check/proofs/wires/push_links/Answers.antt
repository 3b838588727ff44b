use Rattle.std.proofs.Common.{Some}
use Rattle.std.proofs.lemmas.List.{get_or_default}
use Rattle.tv_check.specs.Turned.{wire_of}
use Rattle.tv_check.proofs.Turning.{brought-more}
use Rattle.tv_check.proofs.wires.push_links.Goals as goal

pub loop-number-preserved : goal.loop-number-preserved
loop-number-preserved c =
    let to = c.args.to.now in
    brought-more (λ x. wire_of to.step (to.number, to.port.now) (Some x.0, x.1)) c.args.rows.now c.loop-number.rows c.push_link.new.rows c.args.links.now c.loop-number.number _ c.loop-number-test.true (get_or_default c.args.links.now c.loop-number.number _ _ c.loop-number-test.true) c.loop-number.invariant c.in_ok-push_link.ensures
