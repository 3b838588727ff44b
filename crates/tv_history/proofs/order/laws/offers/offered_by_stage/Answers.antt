use Rattle.std.specs.Prelude.{refl}
use Rattle.tv_history.proofs.offers.Counts.{counted}
use Rattle.tv_history.proofs.order.laws.offers.offered_by_stage.Goals as goal

pub returns : goal.returns
returns c = record {
  stage = λ gives d past j. refl;
  places = λ gives d past j. refl;
  counted = λ gives d p q names apart each all same. counted gives d p q names apart each all same;
}
