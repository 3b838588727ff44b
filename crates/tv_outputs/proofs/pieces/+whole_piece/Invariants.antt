use Rattle.std.proofs.Common.{◌≡◌, ℕ, ◌≤◌, ◌<◌, ◌*◌, ◌++◌, suc, true}
use Rattle.std.specs.Prelude.{slice_range}
use Rattle.tv_parts.specs.Partials.{Partial, part_at, whole}
use Rattle.tv_stream.specs.Trees.{Marked}
use Rattle.tv_cell.specs.declared.piece.Piece.{Piece}
use Rattle.tv_cell.specs.PieceValues.{piece_values}
use Rattle.tv_cell.specs.Soundness.{AreSound}
use Rattle.tv_outputs.specs.Known.{value_tree}
use Rattle.tv_outputs.specs.PartValues.{list_values}
use Rattle.tv_outputs.specs.Seen.{Sees}
use Rattle.tv_outputs.proofs.pieces.+whole_piece.Given as goal

abbrev pub decreases-push_parts : goal.decreases-push_parts
decreases-push_parts l = 3 * l.levels

abbrev pub decreases-list_piece : goal.decreases-list_piece
decreases-list_piece l = suc (3 * l.levels)

abbrev pub decreases-whole_piece : goal.decreases-whole_piece
decreases-whole_piece l = suc (suc (3 * l.levels))

abbrev pub invariant-push_parts-loop-index : goal.invariant-push_parts-loop-index
invariant-push_parts-loop-index l = record {
  values : (r : Partial (Marked Piece)) → Sees l.look l.levels r → ((i : ℕ) → l.first ≤ i → i < l.end → whole (part_at (value_tree r) i) ≡ true) → piece_values l.parts.items ≡ piece_values l.fn.parts.items ++ slice_range (list_values (value_tree r)) l.first l.index;
  sound : AreSound l.parts.items;
}
