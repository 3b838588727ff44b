use Rattle.tv_generator.proofs.Accepting.{accepted}
use Rattle.tv_generator.proofs.laws.are_accepted.Goals as goal

pub returns : goal.returns
returns c = accepted
