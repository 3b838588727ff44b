use Rattle.tv_frame_laws.proofs.nodes.Housed.{jobs-have_nodes, outputs-have_nodes}
use Rattle.tv_frame_laws.proofs.laws.nodes.results.Goals as goal

pub returns : goal.returns
returns c = record {
  outputs = outputs-have_nodes;
  jobs = jobs-have_nodes;
}
