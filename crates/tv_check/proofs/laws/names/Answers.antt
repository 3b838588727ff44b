use Rattle.std.proofs.Common.{refl}
use Rattle.tv_check.proofs.laws.names.Goals as goal

pub returns : goal.returns
returns c = record { main = refl; links = refl; strategy = refl; services = refl; after = refl; outputs = refl }
