use Rattle.tv_known.proofs.Once.{boards-accept_once, histories-accept_once}
use Rattle.tv_known.proofs.laws.once.Goals as goal

pub returns : goal.returns
returns c = record { histories = histories-accept_once; boards = boards-accept_once }
