use Rattle.std.proofs.Common.{refl}
use Rattle.tv_naming.proofs.graphs.laws.worked.Goals as goal

pub returns : goal.returns
returns c = (refl, refl, refl, refl, refl, refl, refl)
