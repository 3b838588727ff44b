use Rattle.std.proofs.Common.{◌≡◌, ℕ, ◌<◌, ◌*◌, ◌++◌, map, suc, true}
use Rattle.std.specs.Prelude.{slice_range}
use Rattle.tv_value.specs.Views.{view}
use Rattle.tv_parts.specs.Partials.{Partial, part_at, whole}
use Rattle.tv_stream.specs.Trees.{Marked}
use Rattle.tv_cell.specs.declared.piece.Piece.{Piece}
use Rattle.tv_outputs.specs.Known.{value_tree}
use Rattle.tv_outputs.specs.PartValues.{list_values}
use Rattle.tv_outputs.specs.Seen.{Sees}
use Rattle.tv_outputs.proofs.values.+whole_value.Given as goal

abbrev pub decreases-push_values : goal.decreases-push_values
decreases-push_values l = 3 * l.levels

abbrev pub decreases-whole_list : goal.decreases-whole_list
decreases-whole_list l = suc (3 * l.levels)

abbrev pub decreases-whole_value : goal.decreases-whole_value
decreases-whole_value l = suc (suc (3 * l.levels))

abbrev pub invariant-push_values-loop-index : goal.invariant-push_values-loop-index
invariant-push_values-loop-index l =
    (r : Partial (Marked Piece)) → Sees l.look l.levels r
    → ((i : ℕ) → i < l.end → whole (part_at (value_tree r) i) ≡ true)
    → map view l.items.items ≡ map view l.fn.items.items ++ slice_range (list_values (value_tree r)) 0 l.index
