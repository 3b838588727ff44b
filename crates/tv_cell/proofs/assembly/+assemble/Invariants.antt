use Rattle.std.proofs.Common.{◌≡◌, take, map}
use Rattle.tv_value.specs.Views.{view}
use Rattle.tv_cell.specs.PieceValues.{piece_values}
use Rattle.tv_cell.proofs.Sizes.{size, sizes}
use Rattle.tv_cell.proofs.assembly.+assemble.Given as goal

abbrev pub decreases-assemble : goal.decreases-assemble
decreases-assemble l = size l.piece.now

abbrev pub decreases-values_of : goal.decreases-values_of
decreases-values_of l = sizes l.pieces.now

abbrev pub invariant-values_of-loop-piece : goal.invariant-values_of-loop-piece
invariant-values_of-loop-piece l = map view l.values.items ≡ piece_values (take l.piece-index l.pieces)
