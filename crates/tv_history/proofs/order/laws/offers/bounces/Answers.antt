use Rattle.tv_history.proofs.offers.Ends.{bounce-legal, none-bounces}
use Rattle.tv_history.proofs.order.laws.offers.bounces.Goals as goal

pub returns : goal.returns
returns c = record {
  bounce = λ gives d past j i ready bounces. bounce-legal gives d past j i ready bounces;
  none = λ gives d past h. none-bounces gives d past h;
}
