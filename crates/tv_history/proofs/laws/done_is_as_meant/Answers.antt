use Rattle.tv_history.proofs.Sums.{done-as_meant}
use Rattle.tv_history.proofs.laws.done_is_as_meant.Goals as goal

pub returns : goal.returns
returns c = λ gives d past. done-as_meant gives d past
