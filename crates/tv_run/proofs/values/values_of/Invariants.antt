use Rattle.std.proofs.Common.{◌≡◌, map, take}
use Rattle.tv_value.specs.Views.{view}
use Rattle.tv_cell.specs.PieceValues.{piece_values}
use Rattle.tv_run.proofs.values.values_of.Given as goal

abbrev pub invariant-loop-piece : goal.invariant-loop-piece
invariant-loop-piece l = map view l.values.items ≡ piece_values (take l.piece-index l.pieces)
