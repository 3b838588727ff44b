use Rattle.std.specs.Prelude.{None}
use Rattle.std.proofs.Common.{ap, ◌∙◌}
use Rattle.tv_cell.specs.PieceValues.{piece_values}
use Rattle.tv_pool.specs.Pool.{number_of, regions_with}
use Rattle.tv_frame.specs.declared.frame.Frame.{Frame}
use Rattle.tv_instances.proofs.Regions.{given-up}
use Rattle.tv_instances.proofs.open.Open.start.Goals as goal

pub seat_first-requires-clause-starts : goal.seat_first-requires-clause-starts
seat_first-requires-clause-starts c =
    let q = c.requires.can in
    (q.0, piece_values c.args.inputs, c.start-2.new.pool, c.in_ok-start-2.ensures.ok q.0.flows q.1)

pub returns-in-Err-clause-refused : goal.returns-in-Err-clause-refused
returns-in-Err-clause-refused c =
    let e = c.in_ok-start-2.ensures in
    given-up c.args.pool.now c.start-2.new.pool c.abandon.new.pool (number_of c.start-2.new.self.region) e.own e.kept
    (c.abandon.ensures.gone ∙ ap (λ (f : Frame). regions_with c.start-2.new.pool (number_of f.region) None) c.seat_first.ensures.frame)
