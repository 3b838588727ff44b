use Rattle.std.proofs.Common.{◌≡◌, ◌++◌, map}
use Rattle.tv_value.specs.Strategies.{Strategy}
use Rattle.tv_value.specs.Nested.{trees_of}
use Rattle.tv_cell.specs.PieceValues.{piece_value, piece_values}
use Rattle.tv_matching.specs.Matchers.{leaf_name}
use Rattle.tv_match.specs.Seen.{told_view}
use Rattle.tv_telling.proofs.Sizes.{size, sizes}
use Rattle.tv_telling.proofs.Values.{told_rest}
use Rattle.tv_telling.proofs.walking.+piece.Given as goal

abbrev pub decreases-tell_piece : goal.decreases-tell_piece
decreases-tell_piece l = size (piece_value l.piece.now)

abbrev pub decreases-tell_pieces : goal.decreases-tell_pieces
decreases-tell_pieces l = sizes (trees_of (piece_values l.pieces.now))

abbrev pub invariant-tell_pieces-loop-index : goal.invariant-tell_pieces-loop-index
invariant-tell_pieces-loop-index l = record {
  place : l.place.items ≡ l.fn.place.items;
  told :
      (s : Strategy)
      → map (told_view s) l.tellings.items ++ told_rest piece_value (leaf_name s l.leaf) l.levels l.fn.place.items l.pieces l.index
      ≡ map (told_view s) l.fn.tellings.items ++ told_rest piece_value (leaf_name s l.leaf) l.levels l.fn.place.items l.pieces 0;
}
