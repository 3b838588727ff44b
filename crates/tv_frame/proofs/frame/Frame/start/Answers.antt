use Rattle.std.specs.Prelude.{None}
use Rattle.std.proofs.Common.{ap, subst, sym, ◌∙◌}
use Rattle.tv_cell.specs.PieceValues.{piece_values}
use Rattle.tv_cell.specs.Soundness.{AreSound}
use Rattle.tv_pool.specs.Pool.{IsLive, number_of, regions_with}
use Rattle.tv_stream.specs.nodes.Calls.{KeepsRegions}
use Rattle.tv_stream.proofs.Counts.{count-begun}
use Rattle.tv_frame.specs.Calls.{CanStart}
use Rattle.tv_frame.proofs.Regions.{begun-keeps, begun-live, released-same}
use Rattle.tv_frame.proofs.frame.Frame.start.Goals as goal

pub start_trees-requires-clause-can : goal.start_trees-requires-clause-can
start_trees-requires-clause-can c =
    let q = c.requires.can in
    (q.0, subst (λ ps. CanStart q.0 c.args.plan.now (piece_values ps)) (sym c.start_parts.ensures.inputs) q.1)

pub start_trees-requires-clause-sound : goal.start_trees-requires-clause-sound
start_trees-requires-clause-sound c = subst AreSound (sym c.start_parts.ensures.inputs) c.requires.sound

pub start_trees-requires-clause-parts : goal.start_trees-requires-clause-parts
start_trees-requires-clause-parts c =
    let p = c.in_ok-start_parts.ensures.parts in
    record {
      tables_are = p.tables_are;
      marked = p.marked;
      endings_are = p.endings_are;
      none_whole = p.none_whole;
      begun = p.begun;
    }

pub start_trees-requires-clause-empty : goal.start_trees-requires-clause-empty
start_trees-requires-clause-empty c = count-begun c.args.pool.now c.begin.new.self c.in-Ok.region c.in-Ok.ensures.ok

pub abandon-requires : goal.abandon-requires
abandon-requires c =
    subst (IsLive c.start_trees.new.pool) (sym c.start_trees.ensures.region)
    (c.start_trees.ensures.kept.live c.in-Ok.region
    (begun-live c.args.pool.now c.begin.new.self c.in-Ok.region c.in-Ok.ensures.ok))

pub returns-in-Ok-start_trees-clause-kept : goal.returns-in-Ok-start_trees-clause-kept
returns-in-Ok-start_trees-clause-kept c =
    subst (λ r. KeepsRegions c.args.pool.now c.start_trees.new.pool (number_of r)) (sym c.start_trees.ensures.region)
    (begun-keeps c.args.pool.now c.begin.new.self c.start_trees.new.pool c.in-Ok.region c.in-Ok.ensures.ok
    c.begin.ensures.kept c.start_trees.ensures.kept)

pub returns-in-Err-start_trees-clause-refused : goal.returns-in-Err-start_trees-clause-refused
returns-in-Err-start_trees-clause-refused c =
    released-same c.args.pool.now c.begin.new.self c.start_trees.new.pool c.abandon.new.pool c.in-Ok.region c.in-Ok.ensures.ok
    c.start_trees.ensures.kept
    (c.abandon.ensures.gone ∙ ap (λ r. regions_with c.start_trees.new.pool (number_of r) None) c.start_trees.ensures.region)
