use Rattle.std.proofs.Common.{length}
use Rattle.tv_cell.proofs.piece.Piece.+part.Given as goal

abbrev pub decreases-part : goal.decreases-part
decreases-part l = length l.place.now
