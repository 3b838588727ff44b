use Rattle.tv_history.proofs.TriesOut.{tries-out}
use Rattle.tv_history.proofs.laws.tries_out_are_counted.Goals as goal

pub returns : goal.returns
returns c = λ gives d past e. tries-out gives d past e
