use Rattle.std.proofs.Common.{length}
use Rattle.tv_stream.proofs.changes.+close_in.Given as goal

abbrev pub decreases-close_in : goal.decreases-close_in
decreases-close_in g l = length l.place.now
