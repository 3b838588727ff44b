use Rattle.tv_forest.proofs.One.{one-goes_on}
use Rattle.tv_forest.proofs.laws.one_goes_on.Goals as goal

pub returns : goal.returns
returns c = one-goes_on
