use Rattle.std.proofs.Common.{◌≡◌, map}
use Rattle.tv_value.specs.Views.{view}
use Rattle.tv_cell.specs.PieceValues.{piece_values}
use Rattle.tv_cell.specs.Soundness.{AreSound}
use Rattle.tv_run.proofs.values.pieces_of.Given as goal

abbrev pub invariant-loop-value : goal.invariant-loop-value
invariant-loop-value l = AreSound l.pieces.items × (piece_values l.pieces.items ≡ map view l.yielded)
