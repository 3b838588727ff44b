use Rattle.tv_model.proofs.Ordered.{flow-ordered}
use Rattle.tv_model.proofs.laws.order_has_all_asks.Goals as goal

pub returns : goal.returns
returns c = λ gives flows depth f instance vs. flow-ordered gives flows depth f instance vs
