use Rattle.tv_strategy.proofs.LawLemmas.{sources-nodes, outputs-sources}
use Rattle.tv_strategy.proofs.laws.sources.Goals as goal

pub returns : goal.returns
returns c = record { nodes = sources-nodes; outputs = outputs-sources }
