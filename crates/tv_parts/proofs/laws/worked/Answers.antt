use Rattle.std.specs.Prelude.{refl}
use Rattle.tv_parts.proofs.laws.worked.Goals as goal

pub returns : goal.returns
returns c = record {
  order = (refl, refl, refl, refl, refl);
  over = (refl, refl, refl);
  first = (refl, refl);
  known = (tt, (tt, (refl, tt)), (refl, (refl, tt)), (refl, (refl, tt)));
  nothing_else = (λ h. h.1.1, λ h. h.1.1, λ h. h.1, λ h. h);
}
