use Rattle.std.proofs.Common.{length}
use Rattle.tv_stream.proofs.changes.+settle_in.Given as goal

abbrev pub decreases-settle_in : goal.decreases-settle_in
decreases-settle_in g l = length l.place.now
