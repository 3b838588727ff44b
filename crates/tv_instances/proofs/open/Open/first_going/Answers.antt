use Rattle.std.specs.Prelude.{get_or}
use Rattle.tv_instances.proofs.Going.{one-passed, order-at}
use Rattle.tv_instances.proofs.Order.{ordered-low}
use Rattle.tv_instances.proofs.open.Open.first_going.Goals as goal

pub is_quiet-requires : goal.is_quiet-requires
is_quiet-requires c =
    let q = c.requires in
    let order = c.order-order.result.now in
    let n = c.loop-position.position in (
      q.0,
      q.1,
      q.2,
      q.3,
      q.4,
      ordered-low q.0.flows q.1 q.2 c.args.self.now.frame q.3 q.4.keeps n (get_or order n 0)
          (order-at q.3 order (c.order-order.ensures q.0.flows q.1 q.2 q.3 q.4.keeps) n c.loop-position-test.true),
    )

pub loop-position-preserved : goal.loop-position-preserved
loop-position-preserved c d plan pool v io =
    let order = c.order-order.result.now in
    let n = c.loop-position.position in
    one-passed d plan pool c.args.self.now v io n (get_or order n 0)
    (order-at v order (c.order-order.ensures d.flows plan pool v io.keeps) n c.loop-position-test.true)
    (c.loop-position.invariant d plan pool v io) (c.is_quiet.ensures c.if-not-is_quiet.false d plan pool v io)
