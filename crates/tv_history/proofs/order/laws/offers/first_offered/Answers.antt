use Rattle.tv_history.proofs.offers.Offers.{handing-legal, nothing}
use Rattle.tv_history.proofs.order.laws.offers.first_offered.Goals as goal

pub returns : goal.returns
returns c = record {
  legal = λ gives d past j a t first asked. handing-legal gives d past j a t first asked;
  nothing = λ gives d past h. nothing gives d past h;
}
