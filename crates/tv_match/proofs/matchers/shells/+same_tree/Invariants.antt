use Rattle.tv_value.specs.Views.{strategy_view}
use Rattle.tv_value.proofs.TreeLemmas.{size, sizes}
use Rattle.tv_strategy.specs.Views.{children_view}
use Rattle.tv_match.proofs.matchers.shells.+same_tree.Given as goal

abbrev pub decreases-same_tree : goal.decreases-same_tree
decreases-same_tree l = size (strategy_view l.first.now)

abbrev pub decreases-same_trees : goal.decreases-same_trees
decreases-same_trees l = sizes (children_view l.first.now)
