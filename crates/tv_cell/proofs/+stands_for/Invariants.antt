use Rattle.std.proofs.Common.{◌≡◌, drop, map}
use Rattle.tv_value.specs.Views.{view}
use Rattle.tv_cell.specs.PieceValues.{piece_values}
use Rattle.tv_value.specs.Sameness.{same_values}
use Rattle.tv_cell.proofs.Sizes.{size, sizes}
use Rattle.tv_cell.proofs.+stands_for.Given as goal

abbrev pub decreases-piece::Piece::stands_for : goal.decreases-piece::Piece::stands_for
decreases-piece::Piece::stands_for l = size l.self.now

abbrev pub decreases-same::stand_for : goal.decreases-same::stand_for
decreases-same::stand_for l = sizes l.pieces.now

abbrev pub invariant-same::stand_for-loop-index : goal.invariant-same::stand_for-loop-index
invariant-same::stand_for-loop-index l =
    same_values (piece_values l.pieces) (map view l.values) ≡ same_values (piece_values (drop l.index l.pieces)) (map view (drop l.index l.values))
