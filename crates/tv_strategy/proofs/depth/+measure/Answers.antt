use Rattle.std.proofs.Common.{◌<◌, ◌≡◌, ◌^◌, ◌+◌, ◌++◌, suc, Ok, Err, false, arith, subst, sym}
use Rattle.tv_value.specs.Views.{strategy_view}
use Rattle.tv_value.proofs.TreeLemmas.{size, sizes, size-item, strategies_of-drop}
use Rattle.tv_strategy.specs.Conditions.{number_of, sum_over}
use Rattle.tv_strategy.specs.Measures.{leaf_names, all_leaf_names, measured, unless, first_inside, depths_of}
use Rattle.tv_value.specs.Strategies.{dot}
use Rattle.tv_strategy.specs.Views.{children_view}
use Rattle.tv_strategy.proofs.Measures.{sum_over-append, sum-item, sum-parts, summed-fits, dot-differs, first_not}
use Rattle.tv_strategy.proofs.depth.+measure.Goals as goal

pub sum_of-measure-requires : goal.sum_of-measure-requires
sum_of-measure-requires t c =
    let xs = c.args.trees.now in
    let x = c.tree-item.result in
    let i = c.loop-tree.tree-index in
    let ports = number_of c.args.mismatch.now in
    let small : sum_over ports (all_leaf_names (children_view xs)) < 2 ^ 32 = c.requires in
    let part = sum-item strategy_view ports xs i x c.loop-tree-test.true c.tree-item.is in
    (subst (λ n. size (strategy_view x) < n) c.decreases (size-item strategy_view xs i x c.loop-tree-test.true c.tree-item.is), omega arith)

pub sum_of-overflow_add-sum : goal.sum_of-overflow_add-sum
sum_of-overflow_add-sum t c =
    let xs = c.args.trees.now in
    let x = c.tree-item.result in
    let i = c.loop-tree.tree-index in
    let fits : c.loop-tree.sum + c.in_ok-sum.field-0 < 2 ^ 32 = summed-fits (number_of c.args.mismatch.now) (children_view xs) _ (strategy_view x) _ c.loop-tree.sum c.in_ok-sum.field-0 (2 ^ 32) c.loop-tree.invariant (strategies_of-drop strategy_view xs i x c.loop-tree-test.true c.tree-item.is) c.in_ok-sum.ensures c.requires in
    omega arith

pub other_than-measure-requires : goal.other_than-measure-requires
other_than-measure-requires t c =
    let xs = c.args.trees.now in
    let x = c.tree-item.result in
    let i = c.loop-tree.tree-index in
    let ports = number_of c.args.mismatch.now in
    let small : sum_over ports (all_leaf_names (children_view xs)) < 2 ^ 32 = c.requires in
    let part = sum-item strategy_view ports xs i x c.loop-tree-test.true c.tree-item.is in
    (subst (λ n. size (strategy_view x) < n) c.decreases (size-item strategy_view xs i x c.loop-tree-test.true c.tree-item.is), omega arith)

pub common_of-measure-requires : goal.common_of-measure-requires
common_of-measure-requires t c =
    let x = c.in-Some.first.now in
    let parts = subst (λ xs. sizes (children_view xs) ≡ t) c.in-Some.ensures.cases.0 c.decreases in
    let small = subst (λ xs. sum_over (number_of c.args.mismatch.now) (all_leaf_names (children_view xs)) < 2 ^ 32) c.in-Some.ensures.cases.0 c.requires in
    (omega arith, (sum-parts (number_of c.args.mismatch.now) (strategy_view x) (children_view c.in-Some.others.now) (2 ^ 32) small).0)

pub common_of-other_than-requires : goal.common_of-other_than-requires
common_of-other_than-requires t c =
    let x = c.in-Some.first.now in
    let parts = subst (λ xs. sizes (children_view xs) ≡ t) c.in-Some.ensures.cases.0 c.decreases in
    let small = subst (λ xs. sum_over (number_of c.args.mismatch.now) (all_leaf_names (children_view xs)) < 2 ^ 32) c.in-Some.ensures.cases.0 c.requires in
    (omega arith, (sum-parts (number_of c.args.mismatch.now) (strategy_view x) (children_view c.in-Some.others.now) (2 ^ 32) small).1)

pub common_of-returns-in-Some-2 : goal.common_of-returns-in-Some-2
common_of-returns-in-Some-2 t c =
    let ports = number_of c.args.mismatch.now in
    subst (λ xs. Err (record { prefixed = false; first = c.in_ok-first.first; second = c.in-Some-2.second }) ≡ measured ports (dot (children_view xs))) (sym c.in-Some.ensures.cases.0)
    (dot-differs ports (strategy_view c.in-Some.first.now) (children_view c.in-Some.others.now) c.in_ok-first.first c.in-Some-2.second c.in_ok-first.ensures (subst (λ o. Ok o ≡ unless (first_inside ports (children_view c.in-Some.others.now)) (first_not c.in_ok-first.first (depths_of ports (children_view c.in-Some.others.now)))) c.in-Some-2.is c.in_ok-second.ensures))

pub right_of-measure-requires : goal.right_of-measure-requires
right_of-measure-requires t c =
    let l = strategy_view c.args.left.now in
    let r = strategy_view c.args.right.now in
    let a = sum_over-append (number_of c.args.mismatch.now) (leaf_names l) (leaf_names r) in
    let small : sum_over (number_of c.args.mismatch.now) (leaf_names l ++ leaf_names r) < 2 ^ 32 = c.requires in
    let d : suc (size l + size r) ≡ t = c.decreases in
    (omega arith, omega arith)

pub right_of-measure-requires-2 : goal.right_of-measure-requires-2
right_of-measure-requires-2 t c =
    let l = strategy_view c.args.left.now in
    let r = strategy_view c.args.right.now in
    let a = sum_over-append (number_of c.args.mismatch.now) (leaf_names l) (leaf_names r) in
    let small : sum_over (number_of c.args.mismatch.now) (leaf_names l ++ leaf_names r) < 2 ^ 32 = c.requires in
    let d : suc (size l + size r) ≡ t = c.decreases in
    (omega arith, omega arith)
