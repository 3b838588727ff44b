use Rattle.std.proofs.Common.{ap, sym, ◌∙◌, map}
use Rattle.std.proofs.lemmas.List.{take_all}
use Rattle.serde_json.specs.View.{items_of}
use Rattle.tv_value.specs.Views.{strategy_view, strategies_of}
use Rattle.tv_flow.proofs.Branches.{strategies_view-each}
use Rattle.tv_json.specs.Documents.{tree_json, all_trees}
use Rattle.tv_json.proofs.Printing.{map-twice, trees-each}
use Rattle.tv_json.proofs.documents.+trees.Goals as goal

pub json_of_trees-returns : goal.json_of_trees-returns
json_of_trees-returns t c =
    let trees = c.deref-tree-items.result.now in
    ap items_of
    (c.loop-tree.invariant
    ∙ ap (map (λ u. tree_json (strategy_view u))) (take_all c.loop-tree.tree-index trees c.loop-tree-test.false)
    ∙ map-twice strategy_view tree_json trees)
    ∙ trees-each (map strategy_view trees)
    ∙ ap (λ ts. all_trees (strategies_of (map strategy_view ts))) c.deref-tree-items.ensures.value
    ∙ ap all_trees (sym (strategies_view-each c.args.trees.now))
