use Rattle.std.proofs.Common.{refl}
use Rattle.tv_check.proofs.laws.accepted.Goals as goal

pub returns : goal.returns
returns c = record { cross = refl; nested = refl }
