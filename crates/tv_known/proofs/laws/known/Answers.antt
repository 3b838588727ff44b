use Rattle.tv_known.proofs.Known.{known_flow_outputs-are_below, known_outputs-are_below, known_ports-are_below}
use Rattle.tv_known.proofs.laws.known.Goals as goal

pub returns : goal.returns
returns c = record {
  outputs = known_outputs-are_below;
  ports = known_ports-are_below;
  flow_outputs = known_flow_outputs-are_below;
}
