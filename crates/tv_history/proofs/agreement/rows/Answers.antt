use Rattle.std.specs.Prelude.{refl}
use Rattle.tv_history.proofs.agreement.rows.Goals as goal

pub returns : goal.returns
returns c = record { flows = (refl, refl, refl, refl); accepted = (refl, refl, refl, refl) }
