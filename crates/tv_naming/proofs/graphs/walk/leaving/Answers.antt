use Rattle.std.proofs.Common.{arith}
use Rattle.tv_naming.specs.graphs.Walk.{is_entered}
use Rattle.tv_naming.proofs.Leaves.{walked-end}
use Rattle.tv_naming.proofs.graphs.walk.leaving.Goals as goal

pub returns : goal.returns
returns c =
    walked-end c.args.graph.now (is_entered c.loop-vertex.walk) c.loop-vertex.walk.left.items c.loop-vertex.invariant.walked
    (λ u below. c.loop-vertex.invariant.entered u (omega (arith, c.loop-vertex-test.false, c.len-vertex-end.ensures.count)))
