use Rattle.tv_words.proofs.Bounds.{commands-are-bounded}
use Rattle.tv_words.proofs.laws.commands_are_bounded.Goals as goal

pub returns : goal.returns
returns c = commands-are-bounded
