use Rattle.std.proofs.Common.{◌<◌, length, map, sym, ap, ◌∙◌, subst, true≢false, []}
use Rattle.std.proofs.lemmas.List.{length-map}
use Rattle.tv_lemmas.proofs.Lists.{get-within}
use Rattle.tv_value.specs.Nested.{trees_of}
use Rattle.tv_value.specs.Views.{view}
use Rattle.tv_parts.specs.Partials.{part_at}
use Rattle.tv_outputs.specs.Known.{value_tree}
use Rattle.tv_outputs.specs.FoundIn.{found_in}
use Rattle.tv_outputs.specs.Kept.{IsNoted}
use Rattle.tv_outputs.proofs.Comparing.{fault-view, found-none, item-smaller, item-told, leaf-told, list-smaller, list-told, list_of-view, more-found, one-other, open-told, size, sizes, text-view, value-at}
use Rattle.tv_outputs.proofs.Mapping.{each-part_at}
use Rattle.tv_outputs.proofs.PieceLemmas.{item-sound, kind-closes}
use Rattle.tv_outputs.proofs.same.+whole_is.Goals as goal

-- ---- a node

pub whole_is-stands_for-requires : goal.whole_is-stands_for-requires
whole_is-stands_for-requires t c =
    let n = c.requires in
    item-sound n.0 c.in-Some.piece.now (c.in-Some.ensures {u = tt} n.0 n.1) n.2

pub whole_is-returns-in-Some : goal.whole_is-returns-in-Some
whole_is-returns-in-Some t c r shows each =
    item-told r c.in-Some.piece.now (c.in-Some.ensures {u = tt} r shows) (view c.args.value.now) c.stands_for.result c.stands_for.ensures

pub whole_is-returns-in_default-kind : goal.whole_is-returns-in_default-kind
whole_is-returns-in_default-kind t c r shows each =
    open-told r (view c.args.value.now) (c.in_default.ensures {u = tt} r shows) (λ n e. c.in_default-kind.not-Closed n (c.kind.ensures r shows ∙ e))

pub whole_is-parts_are-requires : goal.whole_is-parts_are-requires
whole_is-parts_are-requires t c = (
  subst (λ n. sizes (trees_of (map view c.as_slice.result.now)) < n) c.decreases
      (list-smaller (view c.args.value.now) (map view c.as_slice.result.now) (list_of-view c.args.value.now c.in-List.items c.as_slice.result.now c.in-List.is c.as_slice.ensures)),
  c.requires,
)

pub whole_is-returns-in-Text : goal.whole_is-returns-in-Text
whole_is-returns-in-Text t c r shows each =
    leaf-told (value_tree r) c.in-Closed.length (kind-closes r c.in-Closed.length (sym (c.kind.ensures r shows) ∙ c.in-Closed.is)) (view c.args.value.now) _ (ap view c.in-Text.is ∙ text-view c.in-Text.field-0)

pub whole_is-returns-in-List : goal.whole_is-returns-in-List
whole_is-returns-in-List t c r shows each =
    list-told (value_tree r) c.in-Closed.length (kind-closes r c.in-Closed.length (sym (c.kind.ensures r shows) ∙ c.in-Closed.is)) (view c.args.value.now) (map view c.as_slice.result.now)
    (list_of-view c.args.value.now c.in-List.items c.as_slice.result.now c.in-List.is c.as_slice.ensures) c.parts_are.result (c.parts_are.ensures r shows each)

pub whole_is-returns-in-Fault : goal.whole_is-returns-in-Fault
whole_is-returns-in-Fault t c r shows each =
    leaf-told (value_tree r) c.in-Closed.length (kind-closes r c.in-Closed.length (sym (c.kind.ensures r shows) ∙ c.in-Closed.is)) (view c.args.value.now) _ (ap view c.in-Fault.is ∙ fault-view c.in-Fault.field-0)

-- ---- its parts

pub parts_are-returns-in_default : goal.parts_are-returns-in_default
parts_are-returns-in_default t c r shows each =
    let vs = map view c.args.values.now in
    let i = c.loop-index.index in
    let v = get-within vs i (subst (λ n. i < n) (sym (length-map c.args.values.now view ∙ c.if-values-count.false)) c.loop-index-test.true) in
    one-other r vs c.args.count i v.0 c.loop-index-test.true v.1 (λ e. found-none [] v.0 (ap (λ x. found_in [] (value_tree x)) (sym (c.in_default.ensures {u = tt} r shows)) ∙ e))

pub parts_are-whole_is-requires : goal.parts_are-whole_is-requires
parts_are-whole_is-requires t c =
    let vs = map view c.args.values.now in
    let i = c.loop-index.index in
    let n = c.requires in
    let within : i < length c.args.values.now = subst (λ m. i < m) (sym c.if-values-count.false) c.loop-index-test.true in (
      subst (λ m. size (view c.index-values-index.result) < m) c.decreases (item-smaller vs i (view c.index-values-index.result) (value-at c.args.values.now i c.index-values-index.result within c.index-values-index.is)),
      (part_at n.0 i, c.in-Some.ensures {u = tt} n.0 n.1, each-part_at IsNoted n.0 i n.2),
    )

pub parts_are-returns-then-not-whole_is : goal.parts_are-returns-then-not-whole_is
parts_are-returns-then-not-whole_is t c r shows each =
    let vs = map view c.args.values.now in
    let i = c.loop-index.index in
    let within : i < length c.args.values.now = subst (λ m. i < m) (sym c.if-values-count.false) c.loop-index-test.true in
    let told = c.whole_is.ensures (part_at r i) (c.in-Some.ensures {u = tt} r shows) (each-part_at IsNoted r i each) in
    one-other r vs c.args.count i (view c.index-values-index.result) c.loop-index-test.true (value-at c.args.values.now i c.index-values-index.result within c.index-values-index.is)
    (λ e. true≢false (sym (told.1 e) ∙ c.if-not-whole_is.true))

pub parts_are-loop-index-preserved : goal.parts_are-loop-index-preserved
parts_are-loop-index-preserved t c r shows each =
    let vs = map view c.args.values.now in
    let i = c.loop-index.index in
    let within : i < length c.args.values.now = subst (λ m. i < m) (sym c.if-values-count.false) c.loop-index-test.true in
    let told = c.whole_is.ensures (part_at r i) (c.in-Some.ensures {u = tt} r shows) (each-part_at IsNoted r i each) in
    more-found r vs i (view c.index-values-index.result) (c.loop-index.invariant r shows each) (told.0 c.if-not-whole_is.false) (value-at c.args.values.now i c.index-values-index.result within c.index-values-index.is)
