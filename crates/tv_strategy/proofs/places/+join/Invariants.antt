use Rattle.std.proofs.Common.{◌≡◌, ◌+◌, ◌≤◌, suc, Some, drop, length}
use Rattle.tv_value.specs.Views.{strategy_view}
use Rattle.tv_value.proofs.TreeLemmas.{size, sizes}
use Rattle.tv_strategy.specs.Conditions.{place_of}
use Rattle.tv_strategy.specs.Splits.{joined_cross, one_after}
use Rattle.tv_strategy.specs.Views.{children_view}
use Rattle.tv_strategy.proofs.PlaceLemmas.{all_at}
use Rattle.tv_strategy.specs.Rooms.{room_of_all, room_of_most}
use Rattle.tv_strategy.proofs.places.+join.Given as goal

abbrev pub decreases-join_tree : goal.decreases-join_tree
decreases-join_tree l = size (strategy_view l.tree.now)

abbrev pub decreases-join_cross : goal.decreases-join_cross
decreases-join_cross l = sizes (children_view l.trees.now)

abbrev pub decreases-join_prefix : goal.decreases-join_prefix
decreases-join_prefix l = suc (size (strategy_view l.left.now) + size (strategy_view l.right.now))

abbrev pub decreases-join_dot : goal.decreases-join_dot
decreases-join_dot l = sizes (children_view l.trees.now)

abbrev pub invariant-join_cross-loop-tree : goal.invariant-join_cross-loop-tree
invariant-join_cross-loop-tree l =
    (joined_cross (place_of l.places) (children_view l.trees) ≡ one_after (Some l.whole) (joined_cross (place_of l.places) (children_view (drop l.tree-index l.trees))))
    × (length l.whole + room_of_all (place_of l.places) (children_view (drop l.tree-index l.trees)) ≤ room_of_all (place_of l.places) (children_view l.trees))

abbrev pub invariant-join_dot-loop-tree : goal.invariant-join_dot-loop-tree
invariant-join_dot-loop-tree l =
    (all_at (place_of l.places) l.common (children_view l.others) ≡ all_at (place_of l.places) l.common (children_view (drop l.tree-index l.others)))
    × (room_of_most (place_of l.places) (children_view (drop l.tree-index l.others)) ≤ room_of_most (place_of l.places) (children_view l.others))
