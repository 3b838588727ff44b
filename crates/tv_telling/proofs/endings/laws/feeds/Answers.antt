use Rattle.tv_telling.proofs.Feeds.{feeds-once}
use Rattle.tv_telling.proofs.endings.laws.feeds.Goals as goal

pub returns : goal.returns
returns c = feeds-once
