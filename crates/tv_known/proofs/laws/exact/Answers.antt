use Rattle.tv_known.proofs.Known.{flow_outputs-have_their_values, known_flow_outputs-are_exact, known_outputs-are_exact, known_ports-are_exact}
use Rattle.tv_known.proofs.laws.exact.Goals as goal

pub returns : goal.returns
returns c = record {
  outputs = known_outputs-are_exact;
  ports = known_ports-are_exact;
  flow_outputs = known_flow_outputs-are_exact;
  flow_values = flow_outputs-have_their_values;
}
