use Rattle.std.proofs.Common.{ap, sym, true, ◌∙◌}
use Rattle.tv_cell.specs.PieceValues.{piece_values}
use Rattle.tv_run.specs.Judging.{judged_view}
use Rattle.tv_run.proofs.Accepted.{accepts-settled}
use Rattle.tv_run.proofs.Judged.{comes-right, comes-settles}
use Rattle.tv_run.proofs.run.OpenRun.accept.Goals as goal

pub settle_with-requires-clause-settles : goal.settle_with-requires-clause-settles
settle_with-requires-clause-settles c =
    let w = c.requires.asked in (
      w.0,
      w.3,
      comes-settles w.0 c.args.self.now w.3.0 w.3.1 c.args.ticket w.1 w.2 w.4 (piece_values c.in-Right.pieces)
          (w.5 ∙ ap judged_view c.in-Right.is),
    )

pub returns-in-Ok-clause-accepted : goal.returns-in-Ok-clause-accepted
returns-in-Ok-clause-accepted c gives q o so asked comes =
    let r = c.args.self.now in
    let t = c.args.ticket in
    let vs = piece_values c.in-Right.pieces in
    let e = comes ∙ ap judged_view c.in-Right.is in
    let settles = comes-settles gives r so.0 so.1 t q o asked vs e in
    accepts-settled gives r t q o asked c.settle_with.new.self true (sym (comes-right gives r so.0 so.1 t q o asked vs e))
    (c.in-Ok.ensures.settled gives so settles).0 (c.in-Ok.ensures.done gives so settles)

pub returns-in-Ok-accept_reason-clause-accepted : goal.returns-in-Ok-accept_reason-clause-accepted
returns-in-Ok-accept_reason-clause-accepted c gives q o so asked comes =
    c.in-Ok-accept_reason.ensures.accepted gives q o so asked (comes ∙ ap judged_view c.in-Wrong.is)
