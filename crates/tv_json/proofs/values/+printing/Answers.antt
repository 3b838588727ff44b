use Rattle.std.proofs.Common.{ap, sym, ◌∙◌, map}
use Rattle.std.proofs.lemmas.List.{take_all}
use Rattle.serde_json.specs.View.{items_of}
use Rattle.tv_value.specs.Nested.{trees_of}
use Rattle.tv_value.specs.Views.{view}
use Rattle.tv_value.specs.Printed.{json, all_json}
use Rattle.tv_value.proofs.ItemLemmas.{items_view-each}
use Rattle.tv_json.proofs.Printing.{all_json-each}
use Rattle.tv_json.proofs.values.+printing.Goals as goal

pub json_of_items-returns : goal.json_of_items-returns
json_of_items-returns t c =
    let values = c.deref-value-items.result.now in
    ap items_of (c.loop-value.invariant ∙ ap (map (λ v. json (view v))) (take_all c.loop-value.value-index values c.loop-value-test.false))
    ∙ all_json-each values
    ∙ ap (λ vs. all_json (trees_of (map view vs))) c.deref-value-items.ensures.value
    ∙ ap all_json (sym (items_view-each c.args.items.now))
