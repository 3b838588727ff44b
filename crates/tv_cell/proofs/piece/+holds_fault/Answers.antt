use Rattle.std.proofs.Common.{◌∙◌, ap, sym}
use Rattle.tv_value.specs.Values.{holds_fault}
use Rattle.tv_cell.specs.PieceValues.{piece_value}
use Rattle.tv_cell.proofs.Faults.{no-fault-inside}
use Rattle.tv_cell.proofs.PieceLemmas.{list-holds, part-value}
use Rattle.tv_cell.proofs.piece.+holds_fault.Goals as goal

pub Piece::holds_fault-returns-in-List : goal.Piece::holds_fault-returns-in-List
Piece::holds_fault-returns-in-List t c =
    c.any_holds_fault.ensures ∙ list-holds c.args.self.now c.in-List.pieces c.as_slice.result.now c.in-List.is c.as_slice.ensures

pub Piece::holds_fault-returns-else-holds_fault : goal.Piece::holds_fault-returns-else-holds_fault
Piece::holds_fault-returns-else-holds_fault t c =
    c.if-holds_fault.false
    ∙ sym (ap holds_fault (ap piece_value c.in-Part.is ∙ part-value c.in-Part.cell c.in-Part.place)
    ∙ no-fault-inside _ c.in-Part.place (sym c.holds_fault.ensures ∙ c.if-holds_fault.false))
