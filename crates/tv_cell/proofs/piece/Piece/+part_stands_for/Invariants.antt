use Rattle.std.proofs.Common.{length}
use Rattle.tv_cell.proofs.piece.Piece.+part_stands_for.Given as goal

abbrev pub decreases-part_stands_for : goal.decreases-part_stands_for
decreases-part_stands_for l = length l.place.now
