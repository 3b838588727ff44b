use Rattle.tv_stream.proofs.NodeCounts.{nodes-added, nodes-mapped}
use Rattle.tv_stream.proofs.laws.nodes_of_trees.Goals as goal

pub returns : goal.returns
returns g c = record { added = nodes-added; many = nodes-mapped }
