use Rattle.tv_strategy.proofs.LawLemmas.{ends-stand}
use Rattle.tv_strategy.proofs.laws.ends_stand_at_depth.Goals as goal

pub returns : goal.returns
returns c = ends-stand
