use Rattle.std.proofs.Common.{arith}
use Rattle.tv_instances.proofs.Going.{are-going}
use Rattle.tv_instances.proofs.open.Open.going.Goals as goal

pub returns : goal.returns
returns c d plan pool v io =
    let o = c.args.self.now in
    are-going v o.seats.seats o.turns.positions.items o.turns.from io.quiet c.order.result.now c.split_at.result.0.now
    c.split_at.result.1.now (c.order.ensures d.flows plan pool v io.keeps) c.split_at.ensures.front c.split_at.ensures.back
    (let l = c.split_at.ensures.front_len in omega (arith, l))
