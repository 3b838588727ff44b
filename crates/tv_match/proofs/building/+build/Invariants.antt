use Rattle.std.proofs.Common.{suc, ◌+◌}
use Rattle.tv_value.specs.Views.{strategy_view}
use Rattle.tv_value.proofs.TreeLemmas.{size, sizes}
use Rattle.tv_strategy.specs.Views.{children_view}
use Rattle.tv_match.proofs.building.+build.Given as goal

abbrev pub decreases-build : goal.decreases-build
decreases-build l = size (strategy_view l.tree.now)

abbrev pub decreases-build_cross : goal.decreases-build_cross
decreases-build_cross l = sizes (children_view l.trees.now)

abbrev pub decreases-build_crossed : goal.decreases-build_crossed
decreases-build_crossed l = sizes (children_view l.trees.now)

abbrev pub decreases-build_dot : goal.decreases-build_dot
decreases-build_dot l = sizes (children_view l.trees.now)

abbrev pub decreases-build_prefix : goal.decreases-build_prefix
decreases-build_prefix l = suc (size (strategy_view l.left.now) + size (strategy_view l.right.now))
