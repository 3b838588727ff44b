use Rattle.std.proofs.Common.{◌≡◌, drop}
use Rattle.tv_cell.specs.PieceValues.{piece_values}
use Rattle.tv_value.specs.Sameness.{same_values}
use Rattle.tv_cell.proofs.Sizes.{size, sizes}
use Rattle.tv_cell.proofs.+is_same.Given as goal

abbrev pub decreases-piece::Piece::is_same : goal.decreases-piece::Piece::is_same
decreases-piece::Piece::is_same l = size l.self.now

abbrev pub decreases-same::same_pieces : goal.decreases-same::same_pieces
decreases-same::same_pieces l = sizes l.first.now

abbrev pub invariant-same::same_pieces-loop-index : goal.invariant-same::same_pieces-loop-index
invariant-same::same_pieces-loop-index l =
    same_values (piece_values l.first) (piece_values l.second) ≡ same_values (piece_values (drop l.index l.first)) (piece_values (drop l.index l.second))
