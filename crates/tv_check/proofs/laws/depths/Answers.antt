use Rattle.std.proofs.Common.{refl}
use Rattle.tv_check.proofs.laws.depths.Goals as goal

pub returns : goal.returns
returns c = record { merge = refl; deep_merge = refl; dot = refl; prefix = refl; deep_output = refl; nested = refl }
