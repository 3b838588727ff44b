use Rattle.std.proofs.Common.{◌≡◌, ◌++◌, ◌+◌, suc, map}
use Rattle.tv_value.specs.Views.{strategy_view, strategies_of}
use Rattle.tv_value.proofs.TreeLemmas.{size, sizes}
use Rattle.tv_naming.proofs.Once.{leaves_from}
use Rattle.tv_check.proofs.leaves.+push_leaves.Given as goal

abbrev pub decreases-push_leaves : goal.decreases-push_leaves
decreases-push_leaves l = size (strategy_view l.tree.now)

abbrev pub decreases-push_both : goal.decreases-push_both
decreases-push_both l = suc (size (strategy_view l.left.now) + size (strategy_view l.right.now))

abbrev pub decreases-push_all_leaves : goal.decreases-push_all_leaves
decreases-push_all_leaves l = sizes (strategies_of (map strategy_view l.trees.now))

abbrev pub invariant-push_all_leaves-loop-tree : goal.invariant-push_all_leaves-loop-tree
invariant-push_all_leaves-loop-tree l =
    map (λ n. n.now) l.initial.leaves.items ++ leaves_from strategy_view 0 l.trees ≡ map (λ n. n.now) l.leaves.items ++ leaves_from strategy_view l.tree-index l.trees
