use Rattle.std.proofs.Common.{◌+◌, suc}
use Rattle.tv_value.specs.Views.{strategy_view}
use Rattle.tv_value.proofs.TreeLemmas.{size, sizes}
use Rattle.tv_strategy.specs.Views.{children_view}
use Rattle.tv_frame.proofs.starts.+starts.Given as goal

abbrev pub decreases-push_starts : goal.decreases-push_starts
decreases-push_starts l = size (strategy_view l.tree.now)

abbrev pub decreases-push_cross : goal.decreases-push_cross
decreases-push_cross l = sizes (children_view l.trees.now)

abbrev pub decreases-push_dot : goal.decreases-push_dot
decreases-push_dot l = sizes (children_view l.trees.now)

abbrev pub decreases-push_prefix : goal.decreases-push_prefix
decreases-push_prefix l = suc (size (strategy_view l.left.now) + size (strategy_view l.right.now))
