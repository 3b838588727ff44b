use Rattle.std.specs.Prelude.{◌||◌}
use Rattle.std.proofs.Common.{ap, ◌∙◌}
use Rattle.tv_cell.specs.PieceValues.{piece_values}
use Rattle.tv_seats.specs.Stages.{is_nested, is_out, may_settle}
use Rattle.tv_model.specs.instance.Events.{gave}
use Rattle.tv_seats.specs.Seats.{with_stage}
use Rattle.tv_seats.specs.declared.stage.Stage.TheVariants as stage
use Rattle.tv_instances.proofs.Giving.{given-can, given-kept, given-told, to-bounce}
use Rattle.tv_instances.proofs.Seats.{stands-so}
use Rattle.tv_instances.proofs.Telling.{told-passed}
use Rattle.tv_instances.proofs.open.Open.bounce.Goals as goal

pub bounce-requires-clause-ready : goal.bounce-requires-clause-ready
bounce-requires-clause-ready c =
    let q = c.requires.may in (
      q.0.flows,
      q.1,
      q.3,
      to-bounce q.0 c.args.plan.now c.args.pool.now c.args.self.now q.1 c.args.number q.2 q.3 (piece_values c.args.pieces)
          c.args.spot q.4,
    )

pub settle-requires : goal.settle-requires
settle-requires c =
    let q = c.requires.may in
    stands-so may_settle c.args.self.now.seats.seats c.args.number q.2 q.4.there
    ∙ ap (λ b. b || is_out q.2.stage || is_nested q.2.stage) q.4.waits

pub seat_new-requires-clause-keeps : goal.seat_new-requires-clause-keeps
seat_new-requires-clause-keeps c =
    let q = c.requires.may in
    let o = c.args.self.now in
    let plan = c.args.plan.now in
    let pool = c.args.pool.now in
    let n = c.args.number in
    let vs = piece_values c.args.pieces in
    let x = c.args.spot in
    given-kept q.0 plan pool o q.1 n q.2 q.3 vs x q.4.ready c.bounce.new.pool c.bounce.new.self
    (c.bounce.ensures.goes_on q.0.flows q.1 q.3 (to-bounce q.0 plan pool o q.1 n q.2 q.3 vs x q.4))
    c.settle.new.self c.settle.ensures.seats c.settle.ensures.levels c.settle.ensures.room

pub seat_new-requires-clause-can : goal.seat_new-requires-clause-can
seat_new-requires-clause-can c =
    let q = c.requires.may in
    let o = c.args.self.now in
    let plan = c.args.plan.now in
    let pool = c.args.pool.now in
    let n = c.args.number in
    let vs = piece_values c.args.pieces in
    let x = c.args.spot in
    given-can q.0 plan pool o q.1 n q.2 q.3 vs x q.4.ready c.bounce.new.pool c.bounce.new.self
    (c.bounce.ensures.goes_on q.0.flows q.1 q.3 (to-bounce q.0 plan pool o q.1 n q.2 q.3 vs x q.4))
    c.settle.new.self c.settle.ensures.seats c.settle.ensures.levels c.settle.ensures.room

pub pass_quiet-requires : goal.pass_quiet-requires
pass_quiet-requires c =
    let q = c.requires.may in
    let o = c.args.self.now in
    let plan = c.args.plan.now in
    let pool = c.args.pool.now in
    let n = c.args.number in
    let vs = piece_values c.args.pieces in
    let x = c.args.spot in
    let t =
    given-told q.0 plan pool o q.1 n q.2 q.3 vs x q.4.ready c.bounce.new.pool c.bounce.new.self
    (c.bounce.ensures.goes_on q.0.flows q.1 q.3 (to-bounce q.0 plan pool o q.1 n q.2 q.3 vs x q.4))
    c.settle.new.self c.settle.ensures.seats c.settle.ensures.levels c.settle.ensures.room c.seat_new.new.seats
    c.seat_new.ensures.all c.seat_new.new.turns c.seat_new.ensures.turns in
    (q.0, plan, c.bounce.new.pool, t.view, t.is_open)

pub returns-clause-told : goal.returns-clause-told
returns-clause-told c d v s t m =
    let o = c.args.self.now in
    let plan = c.args.plan.now in
    let pool = c.args.pool.now in
    let n = c.args.number in
    let vs = piece_values c.args.pieces in
    let x = c.args.spot in
    told-passed d plan c.bounce.new.pool _ c.pass_quiet.new.self v (gave t.0 s.place vs) x.more
    (with_stage n stage.Settled o.seats.seats)
    (given-told d plan pool o v n s t vs x m.ready c.bounce.new.pool c.bounce.new.self
    (c.bounce.ensures.goes_on d.flows v t (to-bounce d plan pool o v n s t vs x m))
    c.settle.new.self c.settle.ensures.seats c.settle.ensures.levels c.settle.ensures.room c.seat_new.new.seats
    c.seat_new.ensures.all c.seat_new.new.turns c.seat_new.ensures.turns)
    (λ w. c.pass_quiet.ensures.open d plan c.bounce.new.pool w) c.pass_quiet.ensures.seats
