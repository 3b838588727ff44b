use Rattle.std.proofs.Common.{◌≡◌, map, take}
use Rattle.serde_json.specs.View.{view as json_view}
use Rattle.tv_value.specs.Views.{strategy_view}
use Rattle.tv_json.specs.Documents.{tree_json}
use Rattle.tv_json.proofs.documents.+trees.Given as goal

abbrev pub invariant-json_of_trees-loop-tree : goal.invariant-json_of_trees-loop-tree
invariant-json_of_trees-loop-tree l = map json_view l.children.items ≡ map (λ t. tree_json (strategy_view t)) (take l.tree-index l.tree-items)
