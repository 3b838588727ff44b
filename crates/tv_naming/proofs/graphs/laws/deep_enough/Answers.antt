use Rattle.tv_naming.proofs.Walks.{walk-fits}
use Rattle.tv_naming.proofs.Depths.{height-next}
use Rattle.tv_naming.proofs.graphs.laws.deep_enough.Goals as goal

pub returns : goal.returns
returns c = record {
  edges = λ g k w v ok below h. walk-fits g ok k w v below h;
  heights = height-next;
}
