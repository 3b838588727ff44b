use Rattle.json.specs.Print.{escape_byte}
use Rattle.std.specs.Fmt.{digits}
use Rattle.std.specs.Prelude.{refl}
use Rattle.tv_model.proofs.rows.wrong_outcomes.Goals as goal

pub returns : goal.returns
unfolding digits escape_byte
returns c = record { number = refl; depth = refl; error = refl }
