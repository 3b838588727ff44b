use Rattle.std.proofs.Common.{◌<◌, subst}
use Rattle.tv_value.specs.Views.{strategy_view}
use Rattle.tv_value.proofs.TreeLemmas.{size, size-item}
use Rattle.tv_naming.proofs.Once.{leaves-more, leaves-end}
use Rattle.tv_check.proofs.leaves.+push_leaves.Goals as goal

pub push_all_leaves-push_leaves-requires : goal.push_all_leaves-push_leaves-requires
push_all_leaves-push_leaves-requires t c =
    (subst (λ n. size (strategy_view c.tree-item.result) < n) c.decreases (size-item strategy_view c.args.trees.now c.loop-tree.tree-index c.tree-item.result c.loop-tree-test.true c.tree-item.is), tt)

pub push_all_leaves-loop-tree-preserved : goal.push_all_leaves-loop-tree-preserved
push_all_leaves-loop-tree-preserved t c =
    leaves-more strategy_view _ _ _ c.args.trees.now c.loop-tree.tree-index c.tree-item.result c.loop-tree-test.true c.tree-item.is c.loop-tree.invariant c.in_ok-push_leaves.ensures

pub push_all_leaves-returns : goal.push_all_leaves-returns
push_all_leaves-returns t c = leaves-end strategy_view _ _ c.args.trees.now c.loop-tree.tree-index c.loop-tree-test.false c.loop-tree.invariant
