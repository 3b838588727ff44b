use Rattle.std.proofs.Common.{◌≡◌, ◌+◌, true, false, take, map, sym, subst, ◌∙◌}
use Rattle.std.proofs.lemmas.List.Folds.{list_all_at, list_all_more}
use Rattle.std.proofs.lemmas.List.{take_all}
use Rattle.std.specs.Cmp.Derive.{both_true}
use Rattle.tv_value.specs.Nested.{trees_of}
use Rattle.tv_value.specs.Values.{has_depth, all_have_depth}
use Rattle.tv_value.specs.Views.{view}
use Rattle.tv_value.proofs.ItemLemmas.{all_have_depth-each, items_view-each}
use Rattle.tv_value.proofs.value.+depth.Goals as goal

pub Items::have_depth-returns-then-not-has_depth : goal.Items::have_depth-returns-then-not-has_depth
Items::have_depth-returns-then-not-has_depth t c =
    let xs = c.deref-value-items.result.now in
    let d = c.args.depth in
    let item_fails = subst (λ v. has_depth (view v) d ≡ false) c.value-item.is (sym c.if-not-has_depth.ensures) in
    subst (λ ts. false ≡ all_have_depth ts d) (sym (items_view-each c.args.self.now))
    (subst (λ vs. false ≡ all_have_depth (trees_of (map view vs)) d) c.deref-value-items.ensures.value
    (sym (all_have_depth-each xs d ∙ list_all_at (λ v. has_depth (view v) d) xs c.loop-value.value-index c.value-item.result c.loop-value-test.true item_fails)))

pub Items::have_depth-loop-value-preserved : goal.Items::have_depth-loop-value-preserved
Items::have_depth-loop-value-preserved t c =
    let xs = c.deref-value-items.result.now in
    let d = c.args.depth in
    let i = c.loop-value.value-index in
    let item_holds = subst (λ v. has_depth (view v) d ≡ true) c.value-item.is (sym c.if-not-has_depth.ensures) in
    all_have_depth-each (take (i + 1) xs) d
    ∙ list_all_more (λ v. has_depth (view v) d) xs i c.value-item.result c.loop-value-test.true
    ∙ both_true (sym (all_have_depth-each (take i xs) d) ∙ c.loop-value.invariant) item_holds

pub Items::have_depth-returns : goal.Items::have_depth-returns
Items::have_depth-returns t c =
    let xs = c.deref-value-items.result.now in
    let d = c.args.depth in
    let all = take_all c.loop-value.value-index xs c.loop-value-test.false in
    subst (λ ts. true ≡ all_have_depth ts d) (sym (items_view-each c.args.self.now))
    (subst (λ vs. true ≡ all_have_depth (trees_of (map view vs)) d) c.deref-value-items.ensures.value
    (sym (subst (λ vs. all_have_depth (trees_of (map view vs)) d ≡ true) all c.loop-value.invariant)))
