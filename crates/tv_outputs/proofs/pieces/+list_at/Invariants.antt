use Rattle.std.proofs.Common.{length}
use Rattle.tv_outputs.proofs.pieces.+list_at.Given as goal

abbrev pub decreases-list_at : goal.decreases-list_at
decreases-list_at l = length l.place.now
