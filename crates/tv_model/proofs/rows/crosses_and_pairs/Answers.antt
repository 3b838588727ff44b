use Rattle.json.specs.Print.{escape_byte}
use Rattle.std.specs.Fmt.{digits}
use Rattle.std.specs.Prelude.{refl}
use Rattle.tv_model.proofs.rows.crosses_and_pairs.Goals as goal

pub returns : goal.returns
unfolding digits escape_byte
returns c = record { crossed = refl; empty_inner = refl; empty_outer = refl; paired = refl }
