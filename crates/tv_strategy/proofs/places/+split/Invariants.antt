use Rattle.std.proofs.Common.{◌+◌, suc, drop, take}
use Rattle.tv_value.specs.Views.{strategy_view}
use Rattle.tv_value.proofs.TreeLemmas.{size, sizes}
use Rattle.tv_strategy.specs.Conditions.{number_of}
use Rattle.tv_strategy.specs.Views.{children_view}
use Rattle.tv_strategy.proofs.Splits.{Taken, Given}
use Rattle.tv_strategy.proofs.places.+split.Given as goal

abbrev pub decreases-split_into : goal.decreases-split_into
decreases-split_into l = size (strategy_view l.tree.now)

abbrev pub decreases-split_cross : goal.decreases-split_cross
decreases-split_cross l = sizes (children_view l.trees.now)

abbrev pub decreases-split_prefix : goal.decreases-split_prefix
decreases-split_prefix l = suc (size (strategy_view l.left.now) + size (strategy_view l.right.now))

abbrev pub decreases-split_dot : goal.decreases-split_dot
decreases-split_dot l = sizes (children_view l.trees.now)

abbrev pub invariant-split_cross-loop-tree : goal.invariant-split_cross-loop-tree
invariant-split_cross-loop-tree l =
    Taken (number_of l.mismatch) l.indices (children_view l.trees) l.initial.places.items (children_view (drop l.tree-index l.trees)) l.taken l.places.items

abbrev pub invariant-split_dot-loop-tree : goal.invariant-split_dot-loop-tree
invariant-split_dot-loop-tree l =
    Given (number_of l.mismatch) (take l.depth l.indices) l.depth (children_view l.others) l.initial.places.items (children_view (drop l.tree-index l.others)) l.places.items
