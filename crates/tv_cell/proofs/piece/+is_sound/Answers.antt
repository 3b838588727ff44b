use Rattle.std.proofs.Common.{◌∙◌}
use Rattle.tv_cell.proofs.PieceLemmas.{list-told}
use Rattle.tv_cell.proofs.piece.+is_sound.Goals as goal

pub Piece::is_sound-returns-in-List : goal.Piece::is_sound-returns-in-List
Piece::is_sound-returns-in-List t c =
    c.are_sound.ensures ∙ list-told c.args.self.now c.in-List.pieces c.as_slice.result.now c.in-List.is c.as_slice.ensures
