use Rattle.std.proofs.Common.{refl}
use Rattle.tv_check.proofs.laws.cycles.Goals as goal

pub returns : goal.returns
returns c = record { flows = refl; nesting = refl; steps = refl; itself = refl }
