use Rattle.std.proofs.Common.{length}
use Rattle.tv_stream.proofs.changes.+whole_by_close_in.Given as goal

abbrev pub decreases-whole_by_close_in : goal.decreases-whole_by_close_in
decreases-whole_by_close_in g l = length l.place.now
