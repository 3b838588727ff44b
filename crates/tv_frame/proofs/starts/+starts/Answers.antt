use Rattle.std.proofs.Common.{◌<◌, ◌≡◌, ◌^◌, ◌+◌, ◌++◌, suc, arith, subst, sym}
use Rattle.tv_value.specs.Views.{strategy_view}
use Rattle.tv_value.proofs.TreeLemmas.{size, sizes}
use Rattle.tv_strategy.specs.Conditions.{number_of, sum_over}
use Rattle.tv_strategy.specs.Measures.{leaf_names, all_leaf_names, strategy_depth}
use Rattle.tv_strategy.specs.Views.{children_view}
use Rattle.tv_strategy.proofs.Measures.{sum_over-append}
use Rattle.tv_frame.proofs.Depths.{below}
use Rattle.tv_frame.proofs.starts.+starts.Goals as goal

pub push_cross-push_starts-requires : goal.push_cross-push_starts-requires
push_cross-push_starts-requires t c =
    let parts = subst (λ xs. sizes (children_view xs) ≡ t) c.in-Some.ensures.cases.0 c.decreases in
    let small = subst (λ xs. c.args.start + sum_over (number_of c.args.mismatch.now) (all_leaf_names (children_view xs)) < 2 ^ 32) c.in-Some.ensures.cases.0 c.requires in
    let b = below (number_of c.args.mismatch.now) (strategy_view c.in-Some.first.now) (children_view c.in-Some.others.now) c.args.start (2 ^ 32) small in
    (omega arith, b.first)

pub push_cross-overflow_add-start : goal.push_cross-overflow_add-start
push_cross-overflow_add-start t c =
    let small = subst (λ xs. c.args.start + sum_over (number_of c.args.mismatch.now) (all_leaf_names (children_view xs)) < 2 ^ 32) c.in-Some.ensures.cases.0 c.requires in
    let b = below (number_of c.args.mismatch.now) (strategy_view c.in-Some.first.now) (children_view c.in-Some.others.now) c.args.start (2 ^ 32) small in
    let fits : c.args.start + c.in_ok-depth-in-Some.depth < 2 ^ 32 = subst (λ d. c.args.start + d < 2 ^ 32) (sym c.in_ok-depth-in-Some.ensures.depth) b.end in
    omega arith

pub push_cross-push_cross-requires : goal.push_cross-push_cross-requires
push_cross-push_cross-requires t c =
    let parts = subst (λ xs. sizes (children_view xs) ≡ t) c.in-Some.ensures.cases.0 c.decreases in
    let small = subst (λ xs. c.args.start + sum_over (number_of c.args.mismatch.now) (all_leaf_names (children_view xs)) < 2 ^ 32) c.in-Some.ensures.cases.0 c.requires in
    let b = below (number_of c.args.mismatch.now) (strategy_view c.in-Some.first.now) (children_view c.in-Some.others.now) c.args.start (2 ^ 32) small in
    (omega arith, subst (λ d. c.args.start + d + sum_over (number_of c.args.mismatch.now) (all_leaf_names (children_view c.in-Some.others.now)) < 2 ^ 32) (sym c.in_ok-depth-in-Some.ensures.depth) b.rest)

pub push_cross-overflow_add-result : goal.push_cross-overflow_add-result
push_cross-overflow_add-result t c =
    let small = subst (λ xs. c.args.start + sum_over (number_of c.args.mismatch.now) (all_leaf_names (children_view xs)) < 2 ^ 32) c.in-Some.ensures.cases.0 c.requires in
    let b = below (number_of c.args.mismatch.now) (strategy_view c.in-Some.first.now) (children_view c.in-Some.others.now) c.args.start (2 ^ 32) small in
    let fits : c.in_ok-depth-in-Some.depth + c.in_ok-rest-in-Some.rest < 2 ^ 32 = subst (λ d. d + c.in_ok-rest-in-Some.rest < 2 ^ 32) (sym c.in_ok-depth-in-Some.ensures.depth)
    (subst (λ r. strategy_depth (number_of c.args.mismatch.now) (strategy_view c.in-Some.first.now) + r < 2 ^ 32) (sym c.in_ok-rest-in-Some.ensures.depth) b.depth) in
    omega arith

pub push_dot-push_starts-requires : goal.push_dot-push_starts-requires
push_dot-push_starts-requires t c =
    let parts = subst (λ xs. sizes (children_view xs) ≡ t) c.in-Some.ensures.cases.0 c.decreases in
    let small = subst (λ xs. c.args.start + sum_over (number_of c.args.mismatch.now) (all_leaf_names (children_view xs)) < 2 ^ 32) c.in-Some.ensures.cases.0 c.requires in
    let b = below (number_of c.args.mismatch.now) (strategy_view c.in-Some.first.now) (children_view c.in-Some.others.now) c.args.start (2 ^ 32) small in
    (omega arith, b.first)

pub push_dot-push_dot-requires : goal.push_dot-push_dot-requires
push_dot-push_dot-requires t c =
    let parts = subst (λ xs. sizes (children_view xs) ≡ t) c.in-Some.ensures.cases.0 c.decreases in
    let small = subst (λ xs. c.args.start + sum_over (number_of c.args.mismatch.now) (all_leaf_names (children_view xs)) < 2 ^ 32) c.in-Some.ensures.cases.0 c.requires in
    let b = below (number_of c.args.mismatch.now) (strategy_view c.in-Some.first.now) (children_view c.in-Some.others.now) c.args.start (2 ^ 32) small in
    (omega arith, b.others)

pub push_prefix-push_starts-requires : goal.push_prefix-push_starts-requires
push_prefix-push_starts-requires t c =
    let l = strategy_view c.args.left.now in
    let r = strategy_view c.args.right.now in
    let a = sum_over-append (number_of c.args.mismatch.now) (leaf_names l) (leaf_names r) in
    let small : c.args.start + sum_over (number_of c.args.mismatch.now) (leaf_names l ++ leaf_names r) < 2 ^ 32 = c.requires in
    let d : suc (size l + size r) ≡ t = c.decreases in
    (omega arith, omega arith)

pub push_prefix-push_starts-requires-2 : goal.push_prefix-push_starts-requires-2
push_prefix-push_starts-requires-2 t c =
    let l = strategy_view c.args.left.now in
    let r = strategy_view c.args.right.now in
    let a = sum_over-append (number_of c.args.mismatch.now) (leaf_names l) (leaf_names r) in
    let small : c.args.start + sum_over (number_of c.args.mismatch.now) (leaf_names l ++ leaf_names r) < 2 ^ 32 = c.requires in
    let d : suc (size l + size r) ≡ t = c.decreases in
    (omega arith, omega arith)
