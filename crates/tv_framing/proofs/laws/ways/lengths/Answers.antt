use Rattle.tv_framing.proofs.ways.Lengths.{one-length-turns}
use Rattle.tv_framing.proofs.laws.ways.lengths.Goals as goal

pub returns : goal.returns
returns c = one-length-turns
