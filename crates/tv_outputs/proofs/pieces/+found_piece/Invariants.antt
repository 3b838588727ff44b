use Rattle.std.proofs.Common.{length}
use Rattle.tv_outputs.proofs.pieces.+found_piece.Given as goal

abbrev pub decreases-found_piece : goal.decreases-found_piece
decreases-found_piece l = length l.place.now
