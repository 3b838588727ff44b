use Rattle.std.proofs.Common.{refl}
use Rattle.tv_check.proofs.laws.loops.Goals as goal

pub returns : goal.returns
returns c = record { condition = refl; nested = refl; depths = refl }
