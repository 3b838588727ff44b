use Rattle.json.specs.Print.{escape_byte}
use Rattle.std.specs.Fmt.{digits}
use Rattle.std.specs.Prelude.{refl}
use Rattle.tv_model.proofs.rows.faults.Goals as goal

pub returns : goal.returns
unfolding digits escape_byte
returns c = record { bounced = refl; passed = refl; crossed_empty = refl; crossed = refl; paired = refl }
