use Rattle.tv_frame_laws.proofs.Holding.{outputs-below}
use Rattle.tv_frame_laws.proofs.Feeds.{flow_outputs-below, ports-below}
use Rattle.tv_frame_laws.proofs.values.laws.kept.Goals as goal

pub returns : goal.returns
returns c = record {
  outputs = outputs-below;
  ports = ports-below;
  flow_outputs = flow_outputs-below;
}
