use Rattle.std.proofs.Common.{length}
use Rattle.tv_stream.proofs.levels.+marked_in.Given as goal

abbrev pub decreases-marked_in : goal.decreases-marked_in
decreases-marked_in g l = length l.place.now
