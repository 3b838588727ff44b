use Rattle.tv_history.proofs.offers.Stages.{stages}
use Rattle.tv_history.proofs.order.laws.offers.stages.Goals as goal

pub returns : goal.returns
returns c = λ gives d past l j i. stages gives d past l j i
