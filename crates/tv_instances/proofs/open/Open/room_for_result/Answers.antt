use Rattle.std.proofs.Common.{Some, ap, refl, sym, ◌∙◌}
use Rattle.tv_cell.specs.PieceValues.{piece_values}
use Rattle.tv_instances.proofs.Giving.{ready-to_give}
use Rattle.tv_instances.proofs.OpenLemmas.{still-open}
use Rattle.tv_instances.proofs.open.Open.room_for_result.Goals as goal

pub returns-in_err-more-clause-same : goal.returns-in_err-more-clause-same
returns-in_err-more-clause-same c d v io =
    still-open d c.args.plan.now c.args.pool.now c.args.self.now v io c.room_for_result.new.pool _
    (c.room_for_result.ensures.same d.flows v io.keeps) refl refl refl refl

pub returns-in_err-reserve-clause-same : goal.returns-in_err-reserve-clause-same
returns-in_err-reserve-clause-same c d v io =
    still-open d c.args.plan.now c.args.pool.now c.args.self.now v io c.room_for_result.new.pool _
    (c.room_for_result.ensures.same d.flows v io.keeps) c.reserve.ensures.seats c.reserve.ensures.levels refl refl

pub returns-clause-same : goal.returns-clause-same
returns-clause-same c d v io =
    still-open d c.args.plan.now c.args.pool.now c.args.self.now v io c.room_for_result.new.pool _
    (c.room_for_result.ensures.same d.flows v io.keeps) c.reserve.ensures.seats c.reserve.ensures.levels refl refl

pub returns-clause-ready : goal.returns-clause-ready
returns-clause-ready c d v s t io there at may =
    ready-to_give d c.args.plan.now c.args.pool.now c.args.self.now v io c.args.number s there t at
    (piece_values c.args.pieces.now) may c.in-Some.found.step c.in_ok-place.place
    (c.in-Some.ensures.some ∙ ap (λ q. Some (c.in-Some.found.step, q)) (sym c.in_ok-place.ensures.ok))
    c.room_for_result.new.pool _ c.room_for_result.ensures.same c.reserve.ensures.seats c.reserve.ensures.levels refl refl _ refl refl
    c.in_ok-reserve.ensures.ok c.in_ok-more.ensures.ready c.in_ok-more.ensures.count
