use Rattle.std.proofs.Common.{◌≡◌, refl, ◌+◌, ◌<◌, ◌^◌, suc, ◌++◌, [], None, sym, ap, subst, ◌∙◌, arith}
use Rattle.std.proofs.lemmas.List.{nil_from_length}
use Rattle.tv_value.specs.Views.{strategy_view}
use Rattle.tv_value.proofs.TreeLemmas.{size, sizes}
use Rattle.tv_strategy.specs.Conditions.{number_of, sum_over}
use Rattle.tv_strategy.specs.Measures.{leaf_names, all_leaf_names}
use Rattle.tv_strategy.specs.Views.{children_view}
use Rattle.tv_matching.specs.Stores.{dot_store, store_for, store_for_cross, store_for_dot}
use Rattle.tv_strategy.proofs.Measures.{sum_over-append, sum-parts}
use Rattle.tv_match.specs.Entries.{kepts}
use Rattle.tv_match.specs.Filed.{filed, kept_store}
use Rattle.tv_match.proofs.Builds.{dot-many, others-some, first-fits, front-fits, more-fits}
use Rattle.tv_match.proofs.building.+build.Goals as goal

pub build_dot-returns-in_ok-store-in-Some-clause-store : goal.build_dot-returns-in_ok-store-in-Some-clause-store
build_dot-returns-in_ok-store-in-Some-clause-store t c =
    let first = strategy_view c.in-Some.first.now in
    let others = children_view c.in-Some.others.now in
    let i = c.args.from in
    let ports = number_of c.args.mismatch.now in
    ap (kept_store kepts) c.in_ok-store-in-Some.ensures
    ∙ ap (λ f. dot_store None [] [] f (kept_store kepts (filed c.in_ok-back-in-Some.back.store))) c.in_ok-front-in-Some.ensures.store
    ∙ ap (dot_store None [] [] (store_for ports i first)) c.in_ok-back-in-Some.ensures.store
    ∙ ap (λ j. dot_store None [] [] (store_for ports i first) (store_for_dot ports j others)) c.in_ok-front-in-Some.ensures.next
    ∙ sym (dot-many ports i first others (others-some c.in-Some.others.now c.is_empty.result c.is_empty.ensures c.if-is_empty.false) _ refl)
    ∙ ap (λ ts. store_for_dot ports i (children_view ts)) (sym c.in-Some.ensures.cases.0)

pub build_cross-build-requires : goal.build_cross-build-requires
build_cross-build-requires t c =
    let ports = number_of c.args.mismatch.now in
    let s = strategy_view c.in-Some.first.now in
    let cs = children_view c.in-Some.others.now in
    let whole = subst (λ ys. sizes (children_view ys) ≡ t) c.in-Some.ensures.cases.0 c.decreases in
    let small = subst (λ ys. sum_over ports (all_leaf_names (children_view ys)) < 2 ^ 32) c.in-Some.ensures.cases.0 c.requires in
    (omega (arith, whole), (sum-parts ports s cs (2 ^ 32) small).0)

pub build_cross-build_crossed-requires : goal.build_cross-build_crossed-requires
build_cross-build_crossed-requires t c =
    let ports = number_of c.args.mismatch.now in
    let s = strategy_view c.in-Some.first.now in
    let cs = children_view c.in-Some.others.now in
    let whole = subst (λ ys. sizes (children_view ys) ≡ t) c.in-Some.ensures.cases.0 c.decreases in
    let small = subst (λ ys. sum_over ports (all_leaf_names (children_view ys)) < 2 ^ 32) c.in-Some.ensures.cases.0 c.requires in
    (omega (arith, whole), front-fits ports s cs c.in_ok-front-in-Some.front.depth (2 ^ 32) c.in_ok-front-in-Some.ensures.depth small)

pub build_crossed-build-requires : goal.build_crossed-build-requires
build_crossed-build-requires t c =
    let ports = number_of c.args.mismatch.now in
    let s = strategy_view c.in-Some.first.now in
    let cs = children_view c.in-Some.others.now in
    let whole = subst (λ ys. sizes (children_view ys) ≡ t) c.in-Some.ensures.cases.0 c.decreases in
    let small = subst (λ ys. c.args.front.depth + sum_over ports (all_leaf_names (children_view ys)) < 2 ^ 32) c.in-Some.ensures.cases.0 c.requires in
    (omega (arith, whole), first-fits ports s cs c.args.front.depth (2 ^ 32) small)

pub build_crossed-overflow_add-depth : goal.build_crossed-overflow_add-depth
build_crossed-overflow_add-depth t c =
    let ports = number_of c.args.mismatch.now in
    let small = subst (λ ys. c.args.front.depth + sum_over ports (all_leaf_names (children_view ys)) < 2 ^ 32) c.in-Some.ensures.cases.0 c.requires in
    let fits = more-fits ports (strategy_view c.in-Some.first.now) (children_view c.in-Some.others.now) c.args.front.depth c.in_ok-second-in-Some.second.depth (2 ^ 32) c.in_ok-second-in-Some.ensures.depth small in
    omega (arith, fits)

pub build_crossed-build_crossed-requires : goal.build_crossed-build_crossed-requires
build_crossed-build_crossed-requires t c =
    let ports = number_of c.args.mismatch.now in
    let s = strategy_view c.in-Some.first.now in
    let cs = children_view c.in-Some.others.now in
    let whole = subst (λ ys. sizes (children_view ys) ≡ t) c.in-Some.ensures.cases.0 c.decreases in
    let small = subst (λ ys. c.args.front.depth + sum_over ports (all_leaf_names (children_view ys)) < 2 ^ 32) c.in-Some.ensures.cases.0 c.requires in
    (omega (arith, whole), more-fits ports s cs c.args.front.depth c.in_ok-second-in-Some.second.depth (2 ^ 32) c.in_ok-second-in-Some.ensures.depth small)

pub build_dot-build-requires : goal.build_dot-build-requires
build_dot-build-requires t c =
    let ports = number_of c.args.mismatch.now in
    let s = strategy_view c.in-Some.first.now in
    let cs = children_view c.in-Some.others.now in
    let whole = subst (λ ys. sizes (children_view ys) ≡ t) c.in-Some.ensures.cases.0 c.decreases in
    let small = subst (λ ys. sum_over ports (all_leaf_names (children_view ys)) < 2 ^ 32) c.in-Some.ensures.cases.0 c.requires in
    (omega (arith, whole), (sum-parts ports s cs (2 ^ 32) small).0)

pub build_dot-build_dot-requires : goal.build_dot-build_dot-requires
build_dot-build_dot-requires t c =
    let ports = number_of c.args.mismatch.now in
    let s = strategy_view c.in-Some.first.now in
    let cs = children_view c.in-Some.others.now in
    let whole = subst (λ ys. sizes (children_view ys) ≡ t) c.in-Some.ensures.cases.0 c.decreases in
    let small = subst (λ ys. sum_over ports (all_leaf_names (children_view ys)) < 2 ^ 32) c.in-Some.ensures.cases.0 c.requires in
    (omega (arith, whole), (sum-parts ports s cs (2 ^ 32) small).1)

pub build_cross-returns-in-None-clause-store : goal.build_cross-returns-in-None-clause-store
build_cross-returns-in-None-clause-store t c =
    ap (kept_store kepts) c.build_none.ensures.store ∙ sym (ap (λ ys. store_for_cross (number_of c.args.mismatch.now) c.args.from (children_view ys)) (nil_from_length c.args.trees.now c.in-None.ensures.cases))

pub build_dot-returns-in-None-clause-store : goal.build_dot-returns-in-None-clause-store
build_dot-returns-in-None-clause-store t c =
    ap (kept_store kepts) c.build_none.ensures.store ∙ sym (ap (λ ys. store_for_dot (number_of c.args.mismatch.now) c.args.from (children_view ys)) (nil_from_length c.args.trees.now c.in-None.ensures.cases))

pub build_prefix-build-requires : goal.build_prefix-build-requires
build_prefix-build-requires t c =
    let l = strategy_view c.args.left.now in
    let r = strategy_view c.args.right.now in
    let a = sum_over-append (number_of c.args.mismatch.now) (leaf_names l) (leaf_names r) in
    let small : sum_over (number_of c.args.mismatch.now) (leaf_names l ++ leaf_names r) < 2 ^ 32 = c.requires in
    let d : suc (size l + size r) ≡ t = c.decreases in
    (omega arith, omega arith)

pub build_prefix-build-requires-2 : goal.build_prefix-build-requires-2
build_prefix-build-requires-2 t c =
    let l = strategy_view c.args.left.now in
    let r = strategy_view c.args.right.now in
    let a = sum_over-append (number_of c.args.mismatch.now) (leaf_names l) (leaf_names r) in
    let small : sum_over (number_of c.args.mismatch.now) (leaf_names l ++ leaf_names r) < 2 ^ 32 = c.requires in
    let d : suc (size l + size r) ≡ t = c.decreases in
    (omega arith, omega arith)
