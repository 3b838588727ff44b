use Rattle.tv_outputs.proofs.ValueLemmas.{all-nodes, no-more}
use Rattle.tv_outputs.proofs.laws.all_nodes.Goals as goal

pub returns : goal.returns
returns c = record { trees = all-nodes; values = no-more }
