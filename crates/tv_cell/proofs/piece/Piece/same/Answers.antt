use Rattle.std.proofs.Common.{sym, ◌∙◌}
use Rattle.tv_cell.specs.PieceValues.{piece_value}
use Rattle.tv_value.proofs.Sameness.{test-decides}
use Rattle.tv_cell.proofs.piece.Piece.same.Goals as goal

pub returns : goal.returns
returns c =
    let decides = test-decides (piece_value c.args.self.now) (piece_value c.args.other.now) in
    (λ h. decides.0 (sym c.is_same.ensures ∙ h), λ e. c.is_same.ensures ∙ decides.1 e)
