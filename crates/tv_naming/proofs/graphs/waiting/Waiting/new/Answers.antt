use Rattle.std.proofs.Common.{arith}
use Rattle.tv_naming.proofs.Rows.{rows-push_empty}
use Rattle.tv_naming.proofs.graphs.waiting.Waiting.new.Goals as goal

pub loop-preserved : goal.loop-preserved
loop-preserved c = record {
  count = omega (arith, c.in_ok-push.ensures.len, c.loop.invariant.count);
  empty = λ u. rw c.in_ok-push.ensures.items (rows-push_empty c.loop.lists.items c.new.result c.new.ensures.items c.loop.invariant.empty u);
}
