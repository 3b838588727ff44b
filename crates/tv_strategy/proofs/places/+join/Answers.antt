use Rattle.std.proofs.Common.{◌≡◌, ◌<◌, ◌≤◌, ◌+◌, length, drop, length-append, if◌then◌else◌, Bool, not, refl, Some, None, false, true, arith, ap, sym, subst, ◌∙◌}
use Rattle.tv_lemmas.proofs.Tests.{from-false_true}
use Rattle.tv_value.specs.Views.{strategy_view}
use Rattle.tv_value.proofs.TreeLemmas.{size, sizes, size-item, strategies_of-drop, strategies_of-end}
use Rattle.tv_strategy.specs.Conditions.{place_of}
use Rattle.tv_value.specs.Nested.{Place}
use Rattle.tv_value.specs.Values.{Name}
use Rattle.tv_value.specs.Orders.{is_prefix}
use Rattle.tv_value.specs.Strategies.{Strategy, prefix}
use Rattle.tv_strategy.specs.Splits.{gone_on, joined, joined_cross, joined_dot, one_after, same_place}
use Rattle.tv_strategy.specs.Views.{children_view}
use Rattle.tv_strategy.proofs.PlaceLemmas.{cross-end, cross-next, cross-none, all_at-differs, all_at-end, all_at-next, all_at-none, dot-all}
use Rattle.tv_strategy.specs.Rooms.{room_of_all}
use Rattle.tv_strategy.proofs.Rooms.{most-next, room-left, room-next}
use Rattle.tv_strategy.proofs.places.+join.Goals as goal

pub join_cross-join_tree-requires : goal.join_cross-join_tree-requires
join_cross-join_tree-requires t c =
    let xs = c.args.trees.now in
    let x = c.tree-item.result in
    (subst (λ n. size (strategy_view x) < n) c.decreases (size-item strategy_view xs c.loop-tree.tree-index x c.loop-tree-test.true c.tree-item.is), tt)

pub join_cross-returns-in_err-append-clause-short : goal.join_cross-returns-in_err-append-clause-short
join_cross-returns-in_err-append-clause-short t c h =
    let ports = place_of c.args.places.now in
    let xs = c.args.trees.now in
    let x = c.tree-item.result in
    let i = c.loop-tree.tree-index in
    let is : Some c.in-Some.place ≡ joined ports (strategy_view x) = sym c.in-Some.is ∙ c.in_ok-place.ensures.place in
    let left = room-left ports _ (strategy_view x) _ c.in-Some.place (length c.loop-tree.whole) _ (strategies_of-drop strategy_view xs i x c.loop-tree-test.true c.tree-item.is) is c.loop-tree.invariant.1 in
    from-false_true (c.in_err-append.ensures.short (omega (arith, left, h)))

pub join_cross-loop-tree-preserved : goal.join_cross-loop-tree-preserved
join_cross-loop-tree-preserved t c =
    let ports = place_of c.args.places.now in
    let xs = c.args.trees.now in
    let x = c.tree-item.result in
    let i = c.loop-tree.tree-index in
    let rest = strategies_of-drop strategy_view xs i x c.loop-tree-test.true c.tree-item.is in
    let is : Some c.in-Some.place ≡ joined ports (strategy_view x) = sym c.in-Some.is ∙ c.in_ok-place.ensures.place in
    let left = room-left ports _ (strategy_view x) _ c.in-Some.place (length c.loop-tree.whole) _ rest is c.loop-tree.invariant.1 in (
      c.loop-tree.invariant.0
          ∙ cross-next ports _ (strategy_view x) _ c.loop-tree.whole c.in-Some.place rest is
          ∙ ap (λ w. one_after (Some w) (joined_cross ports (children_view (drop (i + 1) xs)))) (sym c.in_ok-append.ensures.ok),
      subst (λ n. n + room_of_all ports (children_view (drop (i + 1) xs)) ≤ room_of_all ports (children_view xs)) (sym (ap length c.in_ok-append.ensures.ok ∙ length-append c.loop-tree.whole c.in-Some.place)) left,
    )

pub join_dot-join_tree-requires-in-loop-tree : goal.join_dot-join_tree-requires-in-loop-tree
join_dot-join_tree-requires-in-loop-tree t c =
    let xs = c.in-Some.others.now in
    let x = c.tree-item.result in
    let whole = subst (λ ys. sizes (children_view ys) ≡ t) c.in-Some.ensures.cases.0 c.decreases in
    let part = size-item strategy_view xs c.loop-tree.tree-index x c.loop-tree-test.true c.tree-item.is in
    (omega arith, tt)

pub join_dot-returns-in_default-3-clause-place : goal.join_dot-returns-in_default-3-clause-place
join_dot-returns-in_default-3-clause-place t c =
    let ports = place_of c.args.places.now in
    let xs = c.in-Some.others.now in
    let x = c.tree-item.result in
    let i = c.loop-tree.tree-index in
    let q = c.as_slice-common.result.now in
    let first : joined ports (strategy_view c.in-Some.first.now) ≡ Some q = sym c.in_ok-place.ensures.place ∙ c.in-Some-2.is ∙ ap Some (sym c.as_slice-common.ensures) in
    let none : None ≡ joined ports (strategy_view x) = sym c.in_default-3.is ∙ c.in_ok-other.ensures.place in
    sym (ap (λ ys. joined_dot ports (children_view ys)) c.in-Some.ensures.cases.0
    ∙ dot-all ports (strategy_view c.in-Some.first.now) (children_view xs) q first
    ∙ c.loop-tree.invariant.0
    ∙ all_at-none ports _ (strategy_view x) _ q (strategies_of-drop strategy_view xs i x c.loop-tree-test.true c.tree-item.is) none)

not-true : (b : Bool) → not b ≡ true → false ≡ b
not-true true h = absurd (cc)
not-true false h = refl

pub join_dot-returns-then-ne-clause-place : goal.join_dot-returns-then-ne-clause-place
join_dot-returns-then-ne-clause-place t c =
    let ports = place_of c.args.places.now in
    let xs = c.in-Some.others.now in
    let x = c.tree-item.result in
    let i = c.loop-tree.tree-index in
    let q = c.as_slice-common.result.now in
    let r = c.as_slice.result.now in
    let first : joined ports (strategy_view c.in-Some.first.now) ≡ Some q = sym c.in_ok-place.ensures.place ∙ c.in-Some-2.is ∙ ap Some (sym c.as_slice-common.ensures) in
    let other : Some r ≡ joined ports (strategy_view x) = ap Some c.as_slice.ensures ∙ sym c.in-Some-3.is ∙ c.in_ok-other.ensures.place in
    let differs : c.ne.result ≡ not (same_place q r) = c.ne.ensures in
    sym (ap (λ ys. joined_dot ports (children_view ys)) c.in-Some.ensures.cases.0
    ∙ dot-all ports (strategy_view c.in-Some.first.now) (children_view xs) q first
    ∙ c.loop-tree.invariant.0
    ∙ all_at-differs ports _ (strategy_view x) _ q r (strategies_of-drop strategy_view xs i x c.loop-tree-test.true c.tree-item.is) other (not-true (same_place q r) (sym differs ∙ c.if-ne.true)))

pub join_dot-returns-clause-place : goal.join_dot-returns-clause-place
join_dot-returns-clause-place t c =
    let ports = place_of c.args.places.now in
    let xs = c.in-Some.others.now in
    let q = c.as_slice-common.result.now in
    let first : joined ports (strategy_view c.in-Some.first.now) ≡ Some q = sym c.in_ok-place.ensures.place ∙ c.in-Some-2.is ∙ ap Some (sym c.as_slice-common.ensures) in
    sym (ap (λ ys. joined_dot ports (children_view ys)) c.in-Some.ensures.cases.0
    ∙ dot-all ports (strategy_view c.in-Some.first.now) (children_view xs) q first
    ∙ c.loop-tree.invariant.0
    ∙ all_at-end ports _ q (strategies_of-end strategy_view xs c.loop-tree.tree-index c.loop-tree-test.false)
    ∙ ap Some c.as_slice-common.ensures)

pub join_cross-returns-clause-place : goal.join_cross-returns-clause-place
join_cross-returns-clause-place t c =
    sym (c.loop-tree.invariant.0 ∙ cross-end (place_of c.args.places.now) _ c.loop-tree.whole (strategies_of-end strategy_view c.args.trees.now c.loop-tree.tree-index c.loop-tree-test.false))

pub join_cross-returns-in_default-clause-place : goal.join_cross-returns-in_default-clause-place
join_cross-returns-in_default-clause-place t c =
    let ports = place_of c.args.places.now in
    let xs = c.args.trees.now in
    let x = c.tree-item.result in
    let none : None ≡ joined ports (strategy_view x) = sym c.in_default.is ∙ c.in_ok-place.ensures.place in
    sym (c.loop-tree.invariant.0 ∙ cross-none ports _ (strategy_view x) _ c.loop-tree.whole (strategies_of-drop strategy_view xs c.loop-tree.tree-index x c.loop-tree-test.true c.tree-item.is) none)

pub join_cross-returns-in_err-place-clause-short : goal.join_cross-returns-in_err-place-clause-short
join_cross-returns-in_err-place-clause-short t c h =
    let xs = c.args.trees.now in
    let x = c.tree-item.result in
    let small = room-next (place_of c.args.places.now) _ (strategy_view x) _ (length c.loop-tree.whole) _ (strategies_of-drop strategy_view xs c.loop-tree.tree-index x c.loop-tree-test.true c.tree-item.is) c.loop-tree.invariant.1 in
    from-false_true (c.in_err-place.ensures.short (omega (arith, small, h)))

pub join_dot-returns-in_err-place-clause-short : goal.join_dot-returns-in_err-place-clause-short
join_dot-returns-in_err-place-clause-short t c h =
    from-false_true (c.in_err-place.ensures.short (most-next (place_of c.args.places.now) _ (strategy_view c.in-Some.first.now) (children_view c.in-Some.others.now) 32 (ap children_view c.in-Some.ensures.cases.0) h).0)

pub join_dot-returns-in_err-other-clause-short : goal.join_dot-returns-in_err-other-clause-short
join_dot-returns-in_err-other-clause-short t c h =
    let ports = place_of c.args.places.now in
    let xs = c.in-Some.others.now in
    let x = c.tree-item.result in
    let small = (most-next ports _ (strategy_view c.in-Some.first.now) (children_view xs) 32 (ap children_view c.in-Some.ensures.cases.0) h).1 in
    let part = most-next ports _ (strategy_view x) _ 32 (strategies_of-drop strategy_view xs c.loop-tree.tree-index x c.loop-tree-test.true c.tree-item.is) (omega (arith, c.loop-tree.invariant.1, small)) in
    from-false_true (c.in_err-other.ensures.short part.0)

not-false : (b : Bool) → not b ≡ false → b ≡ true
not-false true h = refl
not-false false h = absurd (cc)

pub join_dot-loop-tree-preserved : goal.join_dot-loop-tree-preserved
join_dot-loop-tree-preserved t c =
    let ports = place_of c.args.places.now in
    let xs = c.in-Some.others.now in
    let x = c.tree-item.result in
    let q = c.as_slice-common.result.now in
    let r = c.as_slice.result.now in
    let rest = strategies_of-drop strategy_view xs c.loop-tree.tree-index x c.loop-tree-test.true c.tree-item.is in
    let other : Some r ≡ joined ports (strategy_view x) = ap Some c.as_slice.ensures ∙ sym c.in-Some-3.is ∙ c.in_ok-other.ensures.place in (
      c.loop-tree.invariant.0 ∙ all_at-next ports _ (strategy_view x) _ q r rest other (not-false (same_place q r) (sym c.ne.ensures ∙ c.if-ne.false)),
      (most-next ports _ (strategy_view x) _ _ rest c.loop-tree.invariant.1).1,
    )

prefix-is : (ports : Name → Place) (l r : Strategy) (q p : Place) → Some q ≡ joined ports l → Some p ≡ joined ports r → (b : Bool) → is_prefix q p ≡ b → (if b then Some p else None) ≡ joined ports (prefix l r)
prefix-is ports l r q p h k b e = ap (λ c. if c then Some p else None) (sym e) ∙ ap (λ o. gone_on (Some q) o) k ∙ ap (λ o. gone_on o (joined ports r)) h

pub join_prefix-returns-then-not-prefix_of-clause-place : goal.join_prefix-returns-then-not-prefix_of-clause-place
join_prefix-returns-then-not-prefix_of-clause-place t c =
    let ports = place_of c.args.places.now in
    prefix-is ports (strategy_view c.args.left.now) (strategy_view c.args.right.now) c.in-Some.front c.in-Some-2.place (sym c.in-Some.is ∙ c.in_ok-front.ensures.place) (sym c.in-Some-2.is ∙ c.in_ok-place.ensures.place) false (sym c.prefix_of.ensures ∙ c.if-not-prefix_of.true)

pub join_prefix-returns-clause-place : goal.join_prefix-returns-clause-place
join_prefix-returns-clause-place t c =
    let ports = place_of c.args.places.now in
    prefix-is ports (strategy_view c.args.left.now) (strategy_view c.args.right.now) c.in-Some.front c.in-Some-2.place (sym c.in-Some.is ∙ c.in_ok-front.ensures.place) (sym c.in-Some-2.is ∙ c.in_ok-place.ensures.place) true (sym c.prefix_of.ensures ∙ c.if-not-prefix_of.false)
