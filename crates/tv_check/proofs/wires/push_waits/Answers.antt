use Rattle.tv_check.proofs.Turning.{item-more}
use Rattle.tv_check.proofs.wires.push_waits.Goals as goal

pub loop-earlier-preserved : goal.loop-earlier-preserved
loop-earlier-preserved c =
    item-more (λ a. (a, c.args.step)) c.args.rows.now c.loop-earlier.rows c.push.new.self c.args.after.now c.loop-earlier.earlier-index 0 c.loop-earlier-test.true c.loop-earlier.invariant c.in_ok-push.ensures
