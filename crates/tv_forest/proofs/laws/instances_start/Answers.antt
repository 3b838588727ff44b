use Rattle.tv_forest.proofs.Start.{starting}
use Rattle.tv_forest.proofs.laws.instances_start.Goals as goal

pub returns : goal.returns
returns c = starting
