use Rattle.std.proofs.Common.{ap, sym, true, ◌∙◌}
use Rattle.tv_cell.specs.PieceValues.{piece_values}
use Rattle.tv_gate.specs.Outcomes.{good}
use Rattle.tv_gate.specs.Views.{outcome_view}
use Rattle.tv_run.proofs.Accepted.{accepts-settled}
use Rattle.tv_run.proofs.Judged.{right-settles}
use Rattle.tv_run.proofs.run.OpenRun.accept_right.Goals as goal

pub settle_with-requires-clause-settles : goal.settle_with-requires-clause-settles
settle_with-requires-clause-settles c =
    let w = c.requires in (
      w.0,
      w.2,
      right-settles w.0 c.args.self.now w.2.0 w.2.1 c.args.ticket w.1 (outcome_view c.args.outcome) w.3 w.4
          (piece_values c.in_ok-pieces-in-Good.pieces)
          (ap outcome_view c.in-Good.is ∙ ap good (sym c.in_ok-pieces-in-Good.ensures.values)),
    )

pub returns-clause-accepted : goal.returns-clause-accepted
returns-clause-accepted c gives q so asked is =
    let r = c.args.self.now in
    let told = c.in_ok-settle_with-in-Good.ensures in
    let settles =
    right-settles gives r so.0 so.1 c.args.ticket q (outcome_view c.args.outcome) asked is
    (piece_values c.in_ok-pieces-in-Good.pieces)
    (ap outcome_view c.in-Good.is ∙ ap good (sym c.in_ok-pieces-in-Good.ensures.values)) in
    accepts-settled gives r c.args.ticket q (outcome_view c.args.outcome) asked c.settle_with.new.self true (sym is)
    (told.settled gives so settles).0 (told.done gives so settles)
