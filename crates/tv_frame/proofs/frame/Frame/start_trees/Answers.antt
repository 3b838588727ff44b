use Rattle.std.specs.Prelude.{map}
use Rattle.std.proofs.Common.{ap, refl, subst, ◌∙◌}
use Rattle.tv_parts.specs.Partials.{wanting}
use Rattle.tv_cell.specs.PieceValues.{piece_values}
use Rattle.tv_outputs.specs.Kept.{StandBeside}
use Rattle.tv_frame.specs.Started.{AreFirstOuts}
use Rattle.tv_frame.proofs.Started.{starts}
use Rattle.tv_frame.proofs.frame.Frame.start_trees.Goals as goal

pub returns-clause-ok : goal.returns-clause-ok
returns-clause-ok c flows can =
    let deep = c.as_slice.ensures.value ∙ ap (λ t. t.depths.items) c.read-tables.ensures ∙ c.requires.parts.tables_are.depths_are in
    starts flows c.args.plan.now c.args.self.now.inputs c.start.new.pool
    (record c.args.self.now { outputs = c.start.new.self; outs = c.in_ok-outs.outs })
    (record {
      inputs = refl;
      sound = c.requires.sound;
      marked = c.requires.parts.marked;
      tables = c.requires.parts.tables_are;
      endings = c.requires.parts.endings_are;
      none_whole = c.requires.parts.none_whole;
      begun = c.requires.parts.begun;
      live = c.start.ensures.kept.live c.args.self.now.region c.requires.live;
      stand = subst (λ n. StandBeside n c.start.new.pool c.start.new.self c.args.self.now.region) c.requires.empty c.in_ok-start.ensures.stand;
      depths = c.in_ok-start.ensures.depths ∙ deep;
      known = c.in_ok-start.ensures.known ∙ ap (map (λ d. wanting)) deep;
      outs = subst (λ ps. AreFirstOuts c.args.plan.now (piece_values ps) c.in_ok-outs.outs) c.as_slice-inputs.ensures c.in_ok-outs.ensures;
    })
    can
