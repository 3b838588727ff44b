use Rattle.std.proofs.Common.{refl}
use Rattle.tv_check.proofs.laws.inputs.Goals as goal

pub returns : goal.returns
returns c = record { missing = refl; unknown = refl; depth = refl }
