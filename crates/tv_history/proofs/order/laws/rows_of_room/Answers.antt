use Rattle.std.specs.Prelude.{refl}
use Rattle.tv_history.proofs.order.laws.rows_of_room.Goals as goal

pub returns : goal.returns
returns c = record {
  steps = ((refl, refl, refl), (refl, refl, refl), (refl, refl, refl));
  instances = ((refl, refl, refl), (refl, refl, refl), (refl, refl, refl));
}
