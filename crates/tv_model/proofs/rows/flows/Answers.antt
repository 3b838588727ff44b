use Rattle.json.specs.Print.{escape_byte}
use Rattle.std.specs.Fmt.{digits}
use Rattle.std.specs.Prelude.{refl}
use Rattle.tv_model.proofs.rows.flows.Goals as goal

pub returns : goal.returns
unfolding digits escape_byte
returns c = record { genes = refl; opened = refl; inside = refl }
