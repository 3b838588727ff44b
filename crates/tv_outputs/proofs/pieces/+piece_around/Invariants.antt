use Rattle.std.proofs.Common.{◌*◌, suc, length}
use Rattle.tv_outputs.proofs.pieces.+piece_around.Given as goal

abbrev pub decreases-piece_around : goal.decreases-piece_around
decreases-piece_around l = 2 * length l.place.now

abbrev pub decreases-part_around : goal.decreases-part_around
decreases-part_around l = suc (2 * length l.place.now)
