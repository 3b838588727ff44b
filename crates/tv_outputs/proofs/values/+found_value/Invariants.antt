use Rattle.std.proofs.Common.{length}
use Rattle.tv_outputs.proofs.values.+found_value.Given as goal

abbrev pub decreases-found_value : goal.decreases-found_value
decreases-found_value l = length l.place.now
