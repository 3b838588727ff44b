use Rattle.tv_forest.proofs.tries.Flows.{flow-is_of_step, flows-come_after_asks}
use Rattle.tv_forest.proofs.laws.tries.flows_follow.Goals as goal

pub returns : goal.returns
returns c = record { after = flows-come_after_asks; step = flow-is_of_step }
