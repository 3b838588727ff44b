use Rattle.tv_framing.proofs.feeds.Coming.{events-are_in_trees, trees-are_whole_with_steps, trees-go_on}
use Rattle.tv_framing.proofs.laws.feeds.trees.Goals as goal

pub returns : goal.returns
returns c = record { steps = trees-are_whole_with_steps; events = events-are_in_trees; changes = trees-go_on }
