use Rattle.tv_strategy.proofs.LawLemmas.{agree-exactly}
use Rattle.tv_strategy.proofs.laws.agree_without_difference.Goals as goal

pub returns : goal.returns
returns c = agree-exactly
