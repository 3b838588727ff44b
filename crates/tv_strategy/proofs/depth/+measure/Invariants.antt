use Rattle.std.proofs.Common.{◌+◌, suc, drop}
use Rattle.tv_value.specs.Views.{strategy_view}
use Rattle.tv_value.proofs.TreeLemmas.{size, sizes}
use Rattle.tv_strategy.specs.Conditions.{number_of}
use Rattle.tv_strategy.specs.Views.{children_view}
use Rattle.tv_strategy.proofs.Measures.{Summed, Sought}
use Rattle.tv_strategy.proofs.depth.+measure.Given as goal

abbrev pub decreases-measure : goal.decreases-measure
decreases-measure l = size (strategy_view l.tree.now)

abbrev pub decreases-sum_of : goal.decreases-sum_of
decreases-sum_of l = sizes (children_view l.trees.now)

abbrev pub decreases-right_of : goal.decreases-right_of
decreases-right_of l = suc (size (strategy_view l.left.now) + size (strategy_view l.right.now))

abbrev pub decreases-common_of : goal.decreases-common_of
decreases-common_of l = sizes (children_view l.trees.now)

abbrev pub decreases-other_than : goal.decreases-other_than
decreases-other_than l = sizes (children_view l.trees.now)

abbrev pub invariant-sum_of-loop-tree : goal.invariant-sum_of-loop-tree
invariant-sum_of-loop-tree l = Summed (number_of l.mismatch) (children_view l.trees) (children_view (drop l.tree-index l.trees)) l.sum

abbrev pub invariant-other_than-loop-tree : goal.invariant-other_than-loop-tree
invariant-other_than-loop-tree l = Sought (number_of l.mismatch) l.first (children_view l.trees) (children_view (drop l.tree-index l.trees)) l.other
