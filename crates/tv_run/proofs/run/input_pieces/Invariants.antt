use Rattle.std.specs.Prelude.{◌≡◌, map, take}
use Rattle.tv_value.specs.Views.{view}
use Rattle.tv_cell.specs.PieceValues.{piece_values}
use Rattle.tv_cell.specs.Soundness.{AreSound}
use Rattle.tv_run.proofs.run.input_pieces.Given as goal

abbrev pub invariant-loop-input : goal.invariant-loop-input
invariant-loop-input l = AreSound l.pieces.items × (piece_values l.pieces.items ≡ map (λ i. view i.1) (take l.input-index l.inputs))
