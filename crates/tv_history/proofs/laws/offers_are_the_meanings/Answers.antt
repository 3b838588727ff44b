use Rattle.tv_history.proofs.Ready.{readiness}
use Rattle.tv_history.proofs.laws.offers_are_the_meanings.Goals as goal

pub returns : goal.returns
returns c = λ gives d past. readiness gives d past
