use Rattle.tv_history.proofs.Permuted.{done-permuted}
use Rattle.tv_history.proofs.laws.tries_are_of_the_order.Goals as goal

pub returns : goal.returns
returns c = λ gives d past. done-permuted gives d past
