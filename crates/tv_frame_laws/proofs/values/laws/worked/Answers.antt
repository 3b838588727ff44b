use Rattle.std.specs.Prelude.{refl}
use Rattle.tv_frame_laws.proofs.values.laws.worked.Goals as goal

pub returns : goal.returns
returns c = record {
  outputs = (refl, refl, refl, refl);
  inputs = (refl, refl, refl, refl);
  merges = (refl, refl, refl);
}
