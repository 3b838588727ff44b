use Rattle.std.proofs.Common.{length}
use Rattle.tv_cell.proofs.piece.Piece.+has.Given as goal

abbrev pub decreases-has : goal.decreases-has
decreases-has l = length l.place.now
