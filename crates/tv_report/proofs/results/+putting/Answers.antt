use Rattle.std.proofs.Common.{◌++◌, ◌∷◌, ap, sym, ◌∙◌, map}
use Rattle.json.specs.Token as Spec
use Rattle.tv_report.proofs.Growing.{adds-both}
use Rattle.tv_report.proofs.Tokens.{values-tokens}
use Rattle.tv_value.specs.Nested.{trees_of}
use Rattle.tv_value.specs.Views.{view}
use Rattle.tv_value.specs.Printed.{all_json}
use Rattle.tv_value.proofs.ItemLemmas.{items_view-each}
use Rattle.tv_report.specs.Tokens.{tokens_of_items}
use Rattle.tv_report.proofs.results.+putting.Goals as goal

pub put_items-returns : goal.put_items-returns
put_items-returns t c =
    let all =
    adds-both c.args.out.now c.begin_array.new.out c.end_array.new.out _ _ c.in_ok-begin_array.ensures
    (adds-both c.begin_array.new.out c.put_values.new.out c.end_array.new.out _ _ c.in_ok-put_values.ensures c.in_ok-end_array.ensures) in
    (all.0, all.1 ∙ ap (λ ts. c.args.out.now.tokens ++ Spec.begin_array ∷ ts) (sym (ap tokens_of_items (ap all_json (items_view-each c.args.items.now)) ∙ ap (λ vs. tokens_of_items (all_json (trees_of (map view vs)))) (sym c.deref.ensures.value) ∙ values-tokens c.deref.result.now)))
