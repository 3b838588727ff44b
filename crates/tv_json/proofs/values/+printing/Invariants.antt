use Rattle.std.proofs.Common.{◌≡◌, map, take}
use Rattle.serde_json.specs.View.{view as json_view}
use Rattle.tv_value.specs.Views.{view}
use Rattle.tv_value.specs.Printed.{json}
use Rattle.tv_json.proofs.values.+printing.Given as goal

abbrev pub invariant-json_of_items-loop-value : goal.invariant-json_of_items-loop-value
invariant-json_of_items-loop-value l = map json_view l.trees.items ≡ map (λ v. json (view v)) (take l.value-index l.value-items)
