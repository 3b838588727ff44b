use Rattle.std.proofs.Common.{length}
use Rattle.tv_outputs.proofs.same.+found_is.Given as goal

abbrev pub decreases-found_is : goal.decreases-found_is
decreases-found_is l = length l.place.now
