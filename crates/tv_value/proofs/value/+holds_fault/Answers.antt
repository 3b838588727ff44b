use Rattle.std.proofs.Common.{◌≡◌, true, false, map, ap, sym, subst, ◌∙◌}
use Rattle.std.specs.List.{list_any}
use Rattle.std.proofs.lemmas.List.Folds.{list_any_at}
use Rattle.std.proofs.lemmas.List.{take_all}
use Rattle.tv_value.specs.Nested.{trees_of, all_leaves}
use Rattle.tv_value.specs.Values.{is_fault, holds_fault}
use Rattle.tv_value.specs.Views.{view}
use Rattle.tv_value.proofs.Faults.{hold_fault-each}
use Rattle.tv_value.proofs.ItemLemmas.{items_view-each}
use Rattle.tv_value.proofs.value.+holds_fault.Goals as goal

pub Items::hold_fault-returns-then-holds_fault : goal.Items::hold_fault-returns-then-holds_fault
Items::hold_fault-returns-then-holds_fault t c =
    let xs = c.deref-value-items.result.now in
    let item_holds = subst (λ v. holds_fault (view v) ≡ true) c.value-item.is (sym c.if-holds_fault.ensures) in
    sym (ap (λ ts. list_any is_fault (all_leaves ts)) (items_view-each c.args.self.now)
    ∙ ap (λ vs. list_any is_fault (all_leaves (trees_of (map view vs)))) (sym c.deref-value-items.ensures.value)
    ∙ hold_fault-each xs
    ∙ list_any_at (λ v. holds_fault (view v)) xs c.loop-value.value-index c.value-item.result c.loop-value-test.true item_holds)

pub Items::hold_fault-returns : goal.Items::hold_fault-returns
Items::hold_fault-returns t c =
    let xs = c.deref-value-items.result.now in
    let all = take_all c.loop-value.value-index xs c.loop-value-test.false in
    sym (ap (λ ts. list_any is_fault (all_leaves ts)) (items_view-each c.args.self.now)
    ∙ ap (λ vs. list_any is_fault (all_leaves (trees_of (map view vs)))) (sym c.deref-value-items.ensures.value)
    ∙ hold_fault-each xs
    ∙ subst (λ vs. list_any (λ v. holds_fault (view v)) vs ≡ false) all c.loop-value.invariant)
