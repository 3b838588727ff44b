use Rattle.tv_history.proofs.Planned.{meanings-planned}
use Rattle.tv_history.proofs.agreement.meanings_are_as_planned.Goals as goal

pub returns : goal.returns
returns c = λ gives d f a. meanings-planned gives d f a
