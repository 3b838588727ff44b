use Rattle.std.proofs.Common.{arith, false, sym, ◌+◌}
use Rattle.tv_cell.specs.PieceValues.{piece_values}
use Rattle.tv_run.specs.Accepting.{with_failed}
use Rattle.tv_run.proofs.Accepted.{accepts-settled, failed-counted}
use Rattle.tv_run.proofs.Few.{failed-few}
use Rattle.tv_run.proofs.Judged.{not-right, wrong-settles}
use Rattle.tv_run.proofs.run.OpenRun.fail.Goals as goal

pub settle_with-requires-clause-settles : goal.settle_with-requires-clause-settles
settle_with-requires-clause-settles c =
    let w = c.requires in (
      w.0,
      w.3,
      wrong-settles w.0 c.args.self.now w.3.0 w.3.1 c.args.ticket w.1 w.2 w.4 c.args.why w.5 w.6
          (piece_values c.in_ok-pieces.pieces) c.in_ok-pieces.ensures.values,
    )

pub overflow_add-self : goal.overflow_add-self
overflow_add-self c =
    let w = c.requires in
    let r = c.args.self.now in
    let settles =
    wrong-settles w.0 r w.3.0 w.3.1 c.args.ticket w.1 w.2 w.4 c.args.why w.5 w.6 (piece_values c.in_ok-pieces.pieces)
    c.in_ok-pieces.ensures.values in
    let same = (c.in_ok-settle_with.ensures.settled w.0 w.3 settles).1 in
    let few = failed-few w.0 r w.3.0 w.3.1 in
    omega (arith, same, few)

pub returns-clause-accepted : goal.returns-clause-accepted
returns-clause-accepted c gives q o so asked wrong fails =
    let r = c.args.self.now in
    let s = c.settle_with.new.self in
    let settles =
    wrong-settles gives r so.0 so.1 c.args.ticket q o asked c.args.why wrong fails (piece_values c.in_ok-pieces.pieces)
    c.in_ok-pieces.ensures.values in
    accepts-settled gives r c.args.ticket q o asked (with_failed (s.failed + 1) s) false
    (sym (not-right gives r so.0 so.1 c.args.ticket q o asked c.args.why wrong))
    (failed-counted gives r s c.args.ticket (c.in_ok-settle_with.ensures.settled gives so settles))
    (c.in_ok-settle_with.ensures.done gives so settles)
