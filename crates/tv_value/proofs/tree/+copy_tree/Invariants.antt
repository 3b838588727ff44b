use Rattle.std.proofs.Common.{◌≡◌, take, map}
use Rattle.tv_value.specs.Views.{strategy_view}
use Rattle.tv_value.proofs.tree.+copy_tree.Given as goal

abbrev pub invariant-Trees::copy-loop-tree : goal.invariant-Trees::copy-loop-tree
invariant-Trees::copy-loop-tree l = map strategy_view l.trees.items ≡ map strategy_view (take l.tree-index l.tree-items)
