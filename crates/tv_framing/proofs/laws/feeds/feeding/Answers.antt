use Rattle.tv_framing.proofs.feeds.Ports.{ports-are_fed}
use Rattle.tv_framing.proofs.laws.feeds.feeding.Goals as goal

pub returns : goal.returns
returns c = ports-are_fed
