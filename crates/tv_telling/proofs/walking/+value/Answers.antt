use Rattle.std.proofs.Common.{subst, ◌≡◌, ◌++◌, ◌+◌, ◌∷◌, [], ◌<◌, map, ap, sym, ◌∙◌, vec_len, arith, length}
use Rattle.std.specs.List.{list_any}
use Rattle.std.proofs.lemmas.Result.{on_ok_weaker}
use Rattle.tv_value.specs.Nested.{all_leaves, count, trees_of}
use Rattle.tv_value.specs.Values.{holds_fault, is_fault}
use Rattle.tv_value.specs.Views.{view, items_view}
use Rattle.tv_value.proofs.Faults.{hold_fault-each}
use Rattle.tv_value.proofs.ItemLemmas.{items_view-each}
use Rattle.tv_cell.proofs.PieceLemmas.{count-each, list-view}
use Rattle.tv_matching.specs.Matchers.{leaf_name}
use Rattle.tv_match.specs.Seen.{told_view}
use Rattle.tv_telling.specs.ValueTellings.{value_told, values_told}
use Rattle.tv_telling.proofs.Adding.{adds-both}
use Rattle.tv_telling.proofs.Values.{list-told, none-at, popped, rest-end, rest-step, told_rest}
use Rattle.tv_telling.proofs.Sizes.{item-smaller, size, sizes}
use Rattle.tv_telling.proofs.walking.+value.Goals as goal

pub tell_value-returns-in_ok-tell_list-in-List-clause-told :
    goal.tell_value-returns-in_ok-tell_list-in-List-clause-told
tell_value-returns-in_ok-tell_list-in-List-clause-told t c =
    let q = c.args.place.now.items in
    let vs = c.in-List.items in
    let us = c.as_slice-in-List-2.result.now in
    let more : 0 < c.args.levels = omega arith in
    let counted = sym (count-each view us) ∙ ap count c.as_slice-in-List-2.ensures in
    on_ok_weaker c.tell_items.result
    (λ h. adds-both c.args.tellings.now.items c.tell_list.new.tellings.items c.tell_items.new.tellings.items _ _ _
    c.in_ok-tell_list-in-List.ensures h
    (λ s. list-told (leaf_name s c.args.leaf) c.args.levels (length us) q c.as_slice-in-List.result.now (view c.args.value.now) (items_view vs) more c.as_slice-in-List.ensures.value (ap view c.in-List.is ∙ list-view vs) counted))
    c.tell_items.ensures.told

pub tell_value-tell_items-requires : goal.tell_value-tell_items-requires
tell_value-tell_items-requires t c =
    let is = ap view c.in-List.is ∙ list-view c.in-List.items in (
      subst (λ n. sizes (items_view c.in-List.items) < n) (sym (ap size is) ∙ c.decreases) (omega arith),
      λ h. ap holds_fault (sym is) ∙ c.requires.faulty h,
    )

pub tell_items-tell_value-requires : goal.tell_items-tell_value-requires
tell_items-tell_value-requires t c =
    let xs = c.deref-value-items.result.now in
    let i = c.loop-index.index in
    let x = c.value-item.result in
    let within = c.loop-index-test.true in
    let all : trees_of (map view xs) ≡ items_view c.args.items.now = ap (λ vs. trees_of (map view vs)) c.deref-value-items.ensures.value ∙ sym (items_view-each c.args.items.now) in (
      subst (λ n. size (view x) < n) (ap sizes all ∙ c.decreases) (item-smaller view xs i x within c.value-item.is),
      λ h. none-at (λ v. holds_fault (view v)) xs i x within c.value-item.is
          (sym (hold_fault-each xs) ∙ ap (λ ts. list_any is_fault (all_leaves ts)) all ∙ c.requires.faulty h),
    )

pub tell_items-loop-index-preserved : goal.tell_items-loop-index-preserved
tell_items-loop-index-preserved t c =
    let q = c.args.place.now.items in
    let xs = c.deref-value-items.result.now in
    let i = c.loop-index.index in
    let x = c.value-item.result in
    let inv = c.loop-index.invariant in
    let at_place : c.push.new.self.items ≡ q ++ i ∷ [] = c.in_ok-push.ensures.items ∙ (λ k. inv.place k ++ c.in_ok-index_of.ensures k ∷ []) in
    record {
      place = c.pop.ensures.rest ∙ popped q c.tell_value.new.place.items i (vec_len c.tell_value.new.place) (c.in_ok-tell_value.ensures.place ∙ at_place) (omega (arith, c.tell_value.new.place.ok.0));
      told = λ s.
          let p = leaf_name s c.args.leaf in
          ap (λ ts. ts ++ told_rest view p c.args.levels q xs (i + 1)) (c.in_ok-tell_value.ensures.told s ∙ ap (λ r. map (told_view s) c.loop-index.tellings.items ++ value_told p c.args.levels r (view x)) at_place)
          ∙ rest-step view p c.args.levels q (map (told_view s) c.loop-index.tellings.items) xs i x c.loop-index-test.true c.value-item.is
          ∙ inv.told s;
    }

pub tell_items-returns-clause-told : goal.tell_items-returns-clause-told
tell_items-returns-clause-told t c = λ s.
    let q = c.args.place.now.items in
    let p = leaf_name s c.args.leaf in
    let xs = c.deref-value-items.result.now in
    let i = c.loop-index.index in
    let inv = c.loop-index.invariant in
    let all : trees_of (map view xs) ≡ items_view c.args.items.now = ap (λ vs. trees_of (map view vs)) c.deref-value-items.ensures.value ∙ sym (items_view-each c.args.items.now) in
    sym (rest-end view p c.args.levels q (map (told_view s) c.loop-index.tellings.items) xs i c.loop-index-test.false)
    ∙ inv.told s
    ∙ ap (λ ts. map (told_view s) c.args.tellings.now.items ++ values_told p c.args.levels q 0 ts) all
