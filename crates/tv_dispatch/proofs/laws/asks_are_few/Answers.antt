use Rattle.tv_dispatch.proofs.Folded.{asked-few}
use Rattle.tv_dispatch.proofs.laws.asks_are_few.Goals as goal

pub returns : goal.returns
returns c = asked-few
