use Rattle.tv_frame_laws.proofs.Exact.{flow_outputs-exact, outputs-exact, ports-exact}
use Rattle.tv_frame_laws.proofs.values.laws.exact.Goals as goal

pub returns : goal.returns
returns c = record {
  outputs = outputs-exact;
  ports = ports-exact;
  flow_outputs = flow_outputs-exact;
}
