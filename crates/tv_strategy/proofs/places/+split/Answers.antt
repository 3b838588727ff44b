use Rattle.std.proofs.Common.{◌≡◌, ◌+◌, ◌<◌, ◌≤◌, ◌++◌, length, take, length-drop, append_assoc, ap, arith, sym, subst, ◌∙◌}
use Rattle.std.proofs.lemmas.List.{take_rest}
use Rattle.tv_value.specs.Strategies.{dot}
use Rattle.tv_value.specs.Views.{strategy_view}
use Rattle.tv_value.proofs.TreeLemmas.{size, sizes, size-item, strategies_of-drop, strategies_of-end}
use Rattle.tv_strategy.specs.Conditions.{number_of}
use Rattle.tv_strategy.specs.Measures.{strategy_depth, DotsAgree}
use Rattle.tv_strategy.specs.Splits.{split, split_dot}
use Rattle.tv_strategy.specs.Views.{children_view}
use Rattle.tv_strategy.proofs.Splits.{taken-agrees, taken-all, taken-fits, taken-next, AllDeep, all-deep, given-all, given-child, given-first, given-next}
use Rattle.tv_strategy.proofs.places.+split.Goals as goal

pub split_cross-split_into-requires : goal.split_cross-split_into-requires
split_cross-split_into-requires t c =
    let ports = number_of c.args.mismatch.now in
    let xs = c.args.trees.now in
    let x = c.tree-item.result in
    let i = c.loop-tree.tree-index in
    let rest = strategies_of-drop strategy_view xs i x c.loop-tree-test.true c.tree-item.is in
    let agrees = taken-agrees ports c.args.indices.now (children_view xs) c.args.places.now.items _ (strategy_view x) _ c.loop-tree.taken c.loop-tree.places.items c.loop-tree.invariant rest in
    let fits : c.loop-tree.taken + strategy_depth ports (strategy_view x) ≤ length c.args.indices.now = taken-fits ports c.args.indices.now (children_view xs) c.args.places.now.items _ (strategy_view x) _ c.loop-tree.taken (length c.args.indices.now) c.loop-tree.places.items c.loop-tree.invariant rest c.requires.deep in
    let left = length-drop c.loop-tree.taken c.args.indices.now in
    (subst (λ n. size (strategy_view x) < n) c.decreases (size-item strategy_view xs i x c.loop-tree-test.true c.tree-item.is), (agrees, subst (λ q. strategy_depth ports (strategy_view x) ≤ length q) (sym (take_rest c.args.indices.now c.loop-tree.taken)) (omega arith)))

pub split_cross-loop-tree-preserved : goal.split_cross-loop-tree-preserved
split_cross-loop-tree-preserved t c =
    let ports = number_of c.args.mismatch.now in
    let xs = c.args.trees.now in
    let x = c.tree-item.result in
    let i = c.loop-tree.tree-index in
    let h = c.in_ok-taken.ensures in
    taken-next ports c.args.indices.now (children_view xs) c.args.places.now.items _ (strategy_view x) _ c.loop-tree.taken c.in_ok-taken.field-0 c.loop-tree.places.items c.split_into.new.places.items c.loop-tree.invariant (strategies_of-drop strategy_view xs i x c.loop-tree-test.true c.tree-item.is) h.0 (subst (λ q. c.split_into.new.places.items ≡ c.loop-tree.places.items ++ split ports (strategy_view x) (take c.in_ok-taken.field-0 q)) (take_rest c.args.indices.now c.loop-tree.taken) h.1)

pub split_dot-loop-tree-init : goal.split_dot-loop-tree-init
split_dot-loop-tree-init t c =
    let ports = number_of c.args.mismatch.now in
    let agree = subst (λ xs. DotsAgree ports (dot (children_view xs))) c.in-Some.ensures.cases.0 c.requires.agree in
    let deep = all-deep ports (strategy_view c.in-Some.first.now) (children_view c.in-Some.others.now) agree.0.1 agree.1 in
    given-first ports (take c.in_ok-depth.depth c.args.indices.now) c.in_ok-depth.depth (children_view c.in-Some.others.now) c.split_into.new.places.items (subst (λ n. AllDeep ports n (children_view c.in-Some.others.now)) (sym c.in_ok-depth.ensures.0) deep)

pub split_dot-split_into-requires-in-loop-tree : goal.split_dot-split_into-requires-in-loop-tree
split_dot-split_into-requires-in-loop-tree t c =
    let ports = number_of c.args.mismatch.now in
    let xs = c.in-Some.others.now in
    let x = c.tree-item.result in
    let i = c.loop-tree.tree-index in
    let rest = strategies_of-drop strategy_view xs i x c.loop-tree-test.true c.tree-item.is in
    let whole = subst (λ ys. sizes (children_view ys) ≡ t) c.in-Some.ensures.cases.0 c.decreases in
    let part = size-item strategy_view xs i x c.loop-tree-test.true c.tree-item.is in
    let child = given-child ports (take c.in_ok-depth.depth c.args.indices.now) c.in_ok-depth.depth (children_view xs) c.split_into.new.places.items _ (strategy_view x) _ c.loop-tree.places.items c.loop-tree.invariant rest in
    let whole_depth = subst (λ ys. strategy_depth ports (dot (children_view ys)) ≤ length c.args.indices.now) c.in-Some.ensures.cases.0 c.requires.deep in
    let same = child.1 ∙ c.in_ok-depth.ensures.0 in
    (omega arith, (child.0, omega arith))

pub split_cross-returns : goal.split_cross-returns
split_cross-returns t c =
    taken-all (number_of c.args.mismatch.now) c.args.indices.now (children_view c.args.trees.now) c.args.places.now.items _ c.loop-tree.taken c.loop-tree.places.items c.loop-tree.invariant (strategies_of-end strategy_view c.args.trees.now c.loop-tree.tree-index c.loop-tree-test.false)

pub split_dot-loop-tree-preserved : goal.split_dot-loop-tree-preserved
split_dot-loop-tree-preserved t c =
    let ports = number_of c.args.mismatch.now in
    let q = take c.in_ok-depth.depth c.args.indices.now in
    let xs = c.in-Some.others.now in
    let x = c.tree-item.result in
    let rest = strategies_of-drop strategy_view xs c.loop-tree.tree-index x c.loop-tree-test.true c.tree-item.is in
    let child = given-child ports q c.in_ok-depth.depth (children_view xs) c.split_into.new.places.items _ (strategy_view x) _ c.loop-tree.places.items c.loop-tree.invariant rest in
    let h = c.in_ok-split_into.ensures in
    given-next ports q c.in_ok-depth.depth (children_view xs) c.split_into.new.places.items _ (strategy_view x) _ c.loop-tree.places.items c.split_into-in-loop-tree.new.places.items c.loop-tree.invariant rest
    (h.1 ∙ ap (λ n. c.loop-tree.places.items ++ split ports (strategy_view x) (take n c.args.indices.now)) (h.0 ∙ child.1))

pub split_dot-returns : goal.split_dot-returns
split_dot-returns t c =
    let ports = number_of c.args.mismatch.now in
    let q = take c.in_ok-depth.depth c.args.indices.now in
    let x = strategy_view c.in-Some.first.now in
    let xs = c.in-Some.others.now in
    let h = c.in_ok-depth.ensures in
    let is = sym c.in-Some.ensures.cases.0 in
    let end = strategies_of-end strategy_view xs c.loop-tree.tree-index c.loop-tree-test.false in (
      h.0 ∙ ap (λ ys. strategy_depth ports (dot (children_view ys))) is,
      given-all ports q c.in_ok-depth.depth (children_view xs) c.split_into.new.places.items _ c.loop-tree.places.items c.loop-tree.invariant end
          ∙ ap (λ ps. ps ++ split_dot ports (children_view xs) q) h.1
          ∙ append_assoc c.args.places.now.items (split ports x q) (split_dot ports (children_view xs) q)
          ∙ ap (λ ys. c.args.places.now.items ++ split ports (dot (children_view ys)) q) is,
    )
