use Rattle.std.proofs.Common.{◌∙◌}
use Rattle.tv_cell.specs.PieceValues.{piece_values}
use Rattle.tv_seats.specs.Stages.{may_settle}
use Rattle.tv_instances.proofs.Giving.{given-can, given-kept, given-told, ready-there, taken-there}
use Rattle.tv_instances.proofs.Seats.{stands-so}
use Rattle.tv_instances.proofs.open.Open.give.Goals as goal

pub result-requires-clause-ready : goal.result-requires-clause-ready
result-requires-clause-ready c =
    let q = c.requires.may in (
      q.0.flows,
      q.1,
      q.3,
      ready-there q.0 c.args.plan.now c.args.pool.now c.args.self.now q.1 c.args.number q.2 q.3 (piece_values c.args.pieces)
          c.args.spot q.4.ready,
    )

pub settle-requires : goal.settle-requires
settle-requires c =
    let q = c.requires.may in
    stands-so may_settle c.args.self.now.seats.seats c.args.number q.2 q.4.there ∙ q.4.may

pub seat_new-requires-clause-keeps : goal.seat_new-requires-clause-keeps
seat_new-requires-clause-keeps c =
    let q = c.requires.may in
    let o = c.args.self.now in
    let plan = c.args.plan.now in
    let pool = c.args.pool.now in
    let n = c.args.number in
    let vs = piece_values c.args.pieces in
    let x = c.args.spot in
    given-kept q.0 plan pool o q.1 n q.2 q.3 vs x q.4.ready c.result.new.pool c.result.new.self
    (c.result.ensures.goes_on q.0.flows q.1 q.3 (ready-there q.0 plan pool o q.1 n q.2 q.3 vs x q.4.ready)
    (taken-there q.0 plan pool o q.1 n q.2 q.3 vs x q.4))
    c.settle.new.self c.settle.ensures.seats c.settle.ensures.levels c.settle.ensures.room

pub seat_new-requires-clause-can : goal.seat_new-requires-clause-can
seat_new-requires-clause-can c =
    let q = c.requires.may in
    let o = c.args.self.now in
    let plan = c.args.plan.now in
    let pool = c.args.pool.now in
    let n = c.args.number in
    let vs = piece_values c.args.pieces in
    let x = c.args.spot in
    given-can q.0 plan pool o q.1 n q.2 q.3 vs x q.4.ready c.result.new.pool c.result.new.self
    (c.result.ensures.goes_on q.0.flows q.1 q.3 (ready-there q.0 plan pool o q.1 n q.2 q.3 vs x q.4.ready)
    (taken-there q.0 plan pool o q.1 n q.2 q.3 vs x q.4))
    c.settle.new.self c.settle.ensures.seats c.settle.ensures.levels c.settle.ensures.room

pub returns-clause-told : goal.returns-clause-told
returns-clause-told c d v s t m =
    let o = c.args.self.now in
    let plan = c.args.plan.now in
    let pool = c.args.pool.now in
    let n = c.args.number in
    let vs = piece_values c.args.pieces in
    let x = c.args.spot in
    given-told d plan pool o v n s t vs x m.ready c.result.new.pool c.result.new.self
    (c.result.ensures.goes_on d.flows v t (ready-there d plan pool o v n s t vs x m.ready)
    (taken-there d plan pool o v n s t vs x m))
    c.settle.new.self c.settle.ensures.seats c.settle.ensures.levels c.settle.ensures.room c.seat_new.new.seats
    c.seat_new.ensures.all c.seat_new.new.turns c.seat_new.ensures.turns
