use Rattle.std.proofs.Common.{map, sym, ◌∙◌}
use Rattle.tv_value.specs.Views.{items_view, view}
use Rattle.tv_value.proofs.ItemLemmas.{values_view-each}
use Rattle.tv_value.specs.Sameness.{same_values}
use Rattle.tv_value.proofs.Sameness.{same_trees-items}
use Rattle.tv_value.proofs.same.+same_value.Goals as goal

pub same_lists-returns : goal.same_lists-returns
same_lists-returns t c =
    c.same_items.ensures
    ∙ (λ i. same_values (map view (c.as_slice.ensures.value i)) (map view (c.as_slice-2.ensures.value i)))
    ∙ (λ i. same_values (sym (values_view-each c.args.first.now) i) (sym (values_view-each c.args.second.now) i))
    ∙ sym (same_trees-items (items_view c.args.first.now) (items_view c.args.second.now))
