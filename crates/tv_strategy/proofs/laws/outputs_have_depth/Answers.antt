use Rattle.tv_strategy.proofs.LawLemmas.{outputs-stand}
use Rattle.tv_strategy.proofs.laws.outputs_have_depth.Goals as goal

pub returns : goal.returns
returns c = outputs-stand
