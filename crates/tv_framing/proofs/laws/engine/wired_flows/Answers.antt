use Rattle.tv_framing.proofs.engine.Accepted.{accepted-wired}
use Rattle.tv_framing.proofs.laws.engine.wired_flows.Goals as goal

pub returns : goal.returns
returns c = accepted-wired
