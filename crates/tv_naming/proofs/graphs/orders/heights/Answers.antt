use Rattle.std.proofs.Common.{◌≡◌, ◌∙◌, ◌+◌, ◌<◌, ℕ, List, [], ◌∷◌, ◌||◌, true, false, map, length, drop, drop-cons, get_or, get_or-set_same, get_or-set_other, length-set, length-drop, add-one, subst, ap, sym, refl, arith}
use Rattle.std.proofs.Math.ListN.{set}
use Rattle.std.specs.Prelude.{slice_index}
use Rattle.tv_naming.specs.graphs.Graphs.{before, greatest, by_least, is_one_of}
use Rattle.tv_naming.proofs.Members.{member-none}
use Rattle.tv_naming.proofs.Arranged.{IsArranged, by_least-IsArranged, all_come}
use Rattle.tv_naming.proofs.Cycles.{no_cycle-all_come}
use Rattle.tv_naming.proofs.Measuring.{greatest_bounded, IsMeasured-cons, heights-all}
use Rattle.tv_naming.proofs.graphs.orders.heights.Goals as goal

pub loop-vertex-init : goal.loop-vertex-init
loop-vertex-init c = record {
  count = omega (arith, c.in_ok-heights.ensures.len, c.len.ensures.count, c.in_ok-heights.heights.ok.0);
  so_far = (
    [],
    refl,
    subst (λ (xs : List ℕ). IsArranged c.args.graph.now [] xs) (sym (c.deref-vertex-items.ensures.value ∙ c.in_ok-order.ensures)) (by_least-IsArranged c.args.graph.now),
    record { deep = λ v m e. cc; bounded = λ v e. cc },
    λ v. refl,
  );
}

pub overflow_add-greatest_height : goal.overflow_add-greatest_height
overflow_add-greatest_height c =
    let items : List ℕ = c.deref-vertex-items.result.now in
    let k : ℕ = c.loop-vertex.vertex-index in
    let so = c.loop-vertex.invariant.so_far in
    let h : ℕ → ℕ = λ v. get_or c.loop-vertex.heights.items v 0 in
    let front : drop k items ≡ get_or items k 0 ∷ drop (k + 1) items = rw add-one (drop-cons items k 0 c.loop-vertex-test.true) in
    let arranged : IsArranged c.args.graph.now so.0 (get_or items k 0 ∷ drop (k + 1) items) = subst (λ (xs : List ℕ). IsArranged c.args.graph.now so.0 xs) front so.2 in
    let value : c.greatest_height.result ≡ greatest (map h (before c.args.graph.now (get_or items k 0))) =
    c.greatest_height.ensures ∙ ap (λ hs. greatest (map (slice_index hs) c.before-in-loop-vertex.result.now)) c.deref.ensures.value ∙ ap (λ us. greatest (map h us)) c.before-in-loop-vertex.ensures.value in
    let all : length (by_least c.args.graph.now) ≡ length c.args.graph.now = no_cycle-all_come c.args.graph.now c.len.ensures.graph c.requires in
    let length_items : length items ≡ length (by_least c.args.graph.now) = ap length (c.deref-vertex-items.ensures.value ∙ c.in_ok-order.ensures) in
    omega (arith, greatest_bounded c.args.graph.now so.0 h so.3 (get_or items k 0) arranged.0, value, so.1, all, length_items, c.loop-vertex-test.true, c.len.ensures.small, c.len.ensures.count)

pub loop-vertex-preserved : goal.loop-vertex-preserved
loop-vertex-preserved c =
    let items : List ℕ = c.deref-vertex-items.result.now in
    let k : ℕ = c.loop-vertex.vertex-index in
    let x : ℕ = get_or items k 0 in
    let so = c.loop-vertex.invariant.so_far in
    let hs : List ℕ = c.loop-vertex.heights.items in
    let h : ℕ → ℕ = λ v. get_or hs v 0 in
    let front : drop k items ≡ x ∷ drop (k + 1) items = rw add-one (drop-cons items k 0 c.loop-vertex-test.true) in
    let arranged : IsArranged c.args.graph.now so.0 (x ∷ drop (k + 1) items) = subst (λ (xs : List ℕ). IsArranged c.args.graph.now so.0 xs) front so.2 in
    let value : c.greatest_height.result ≡ greatest (map h (before c.args.graph.now x)) =
    c.greatest_height.ensures ∙ ap (λ ys. greatest (map (slice_index ys) c.before-in-loop-vertex.result.now)) c.deref.ensures.value ∙ ap (λ us. greatest (map h us)) c.before-in-loop-vertex.ensures.value in
    let below : x < length hs = omega (arith, arranged.1, c.loop-vertex.invariant.count) in
    record {
      count = length-set hs x (c.greatest_height.result + 1) ∙ c.loop-vertex.invariant.count;
      so_far = (
        x ∷ so.0,
        omega (arith, so.1),
        arranged.2,
        IsMeasured-cons c.args.graph.now so.0 h so.3 x arranged.0 (λ v. get_or (set hs x (c.greatest_height.result + 1)) v 0)
            (get_or-set_same hs x (c.greatest_height.result + 1) 0 below ∙ omega (arith, value)) (λ v ne. get_or-set_other hs x v (c.greatest_height.result + 1) 0 ne),
        λ v. so.4 v ∙ ap (λ xs. is_one_of so.0 v || is_one_of xs v) front ∙ grind arith,
      );
    }

pub returns : goal.returns
returns c =
    let items : List ℕ = c.deref-vertex-items.result.now in
    let k : ℕ = c.loop-vertex.vertex-index in
    let so = c.loop-vertex.invariant.so_far in
    let all : length (by_least c.args.graph.now) ≡ length c.args.graph.now = no_cycle-all_come c.args.graph.now c.len.ensures.graph c.requires in
    let order : items ≡ by_least c.args.graph.now = c.deref-vertex-items.ensures.value ∙ c.in_ok-order.ensures in
    heights-all c.args.graph.now c.loop-vertex.heights.items c.loop-vertex.invariant.count
    (λ v below.
    let come : is_one_of items v ≡ true = ap (λ xs. is_one_of xs v) order ∙ all_come c.args.graph.now v all below in
    let rest : is_one_of (drop k items) v ≡ false = member-none (drop k items) v (omega (arith, length-drop k items, c.loop-vertex-test.false)) in
    let is_taken : is_one_of so.0 v ≡ true = grind (arith, so.4 v, come, rest) in
    so.3.deep v (length c.args.graph.now) is_taken (omega (arith, so.1, c.loop-vertex.auto.vertex-index-end, ap length order, all)))
