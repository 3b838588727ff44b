use Rattle.std.specs.List.{zip}
use Rattle.std.specs.Prelude.{length, map}
use Rattle.std.proofs.Common.{ap, subst, sym, ◌∙◌}
use Rattle.std.proofs.lemmas.Result.{IfOk-weaker}
use Rattle.tv_cell.specs.PieceValues.{piece_values}
use Rattle.tv_cell.specs.Soundness.{AreSound}
use Rattle.tv_run.proofs.OutputLemmas.{as-many-outputs, none-missing, outputs-meant, sound-outputs}
use Rattle.tv_run.proofs.run.OpenRun.outputs.Goals as goal

pub named_pieces-requires-clause-sound : goal.named_pieces-requires-clause-sound
named_pieces-requires-clause-sound c =
    subst AreSound (sym c.as_slice-in-Some.ensures)
    (sound-outputs c.requires.0 c.args.self.now c.requires.1 c.in-Some.ended c.in-Some.is)

pub named_pieces-requires-clause-many : goal.named_pieces-requires-clause-many
named_pieces-requires-clause-many c =
    ap length c.as_slice-in-Some.ensures
    ∙ as-many-outputs c.requires.0 c.args.self.now c.requires.1 c.in-Some.ended c.in-Some.is
    c.main.result c.flow-plan.result.now c.main.ensures.position c.flow-plan.ensures c.as_slice.result.now
    c.as_slice.ensures

pub unreachable-requires : goal.unreachable-requires
unreachable-requires c = none-missing c.requires.0 c.args.self.now c.requires.1 c.requires.2 c.in-None.is

pub returns-clause-values : goal.returns-clause-values
returns-clause-values c =
    IfOk-weaker c.named_pieces.result _ _
    (λ os h gives st done.
    h
    ∙ ap (λ ps. zip (map (λ n. n.0) c.as_slice.result.now) (piece_values ps)) c.as_slice-in-Some.ensures
    ∙ outputs-meant gives c.args.self.now st c.in-Some.ended c.in-Some.is c.main.result c.flow-plan.result.now
    c.main.ensures.position c.flow-plan.ensures c.as_slice.result.now c.as_slice.ensures)
    c.named_pieces.ensures.values
