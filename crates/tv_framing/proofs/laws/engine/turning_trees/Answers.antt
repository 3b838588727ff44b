use Rattle.tv_framing.proofs.engine.Trees.{events-put, trees-turn, trees-whole}
use Rattle.tv_framing.proofs.laws.engine.turning_trees.Goals as goal

pub returns : goal.returns
returns c = record { counted = trees-whole; turning = trees-turn; changes = events-put }
