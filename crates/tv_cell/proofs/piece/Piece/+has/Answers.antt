use Rattle.std.proofs.Common.{◌∙◌, ap, sym, [], Some, None}
use Rattle.tv_value.specs.Nested.{at, trees_of}
use Rattle.tv_value.specs.Values.{fault, list_value, text}
use Rattle.tv_value.specs.Views.{view}
use Rattle.tv_cell.specs.Found.{document_of, found_value, with_depth}
use Rattle.tv_cell.specs.PieceValues.{piece_value, piece_values}
use Rattle.tv_cell.proofs.Parts.{first-stands, leaf-stands}
use Rattle.tv_cell.proofs.PieceLemmas.{fault-value, list-value, part-value}
use Rattle.tv_cell.proofs.piece.Piece.+has.Goals as goal

pub returns-in-None : goal.returns-in-None
returns-in-None t c =
    let nothing = ap piece_value c.in-Part.is ∙ part-value c.in-Part.cell c.in-Part.start ∙ ap found_value (sym c.in-None.ensures) in
    c.is_empty.ensures ∙ leaf-stands (piece_value c.args.self.now) (text []) c.args.place.now nothing

pub returns-in-Some-thing_at : goal.returns-in-Some-thing_at
returns-in-Some-thing_at t c =
    let listed = ap piece_value c.in-List.is ∙ list-value c.in-List.pieces ∙ ap (λ ps. list_value (trees_of (piece_values ps))) (sym c.as_slice.ensures) in
    c.has.ensures ∙ first-stands piece_value (piece_value c.args.self.now) c.as_slice.result.now c.args.place.now (Some c.in-Some-thing_at.piece.now) listed c.in-len1-up.len_at_least c.in-Some-thing_at.ensures

pub returns-in-None-thing_at : goal.returns-in-None-thing_at
returns-in-None-thing_at t c =
    let listed = ap piece_value c.in-List.is ∙ list-value c.in-List.pieces ∙ ap (λ ps. list_value (trees_of (piece_values ps))) (sym c.as_slice.ensures) in
    first-stands piece_value (piece_value c.args.self.now) c.as_slice.result.now c.args.place.now None listed c.in-len1-up.len_at_least c.in-None-thing_at.ensures

pub returns-in-Fault : goal.returns-in-Fault
returns-in-Fault t c =
    let document = with_depth c.in-Fault.field-2 (document_of (found_value (at (view c.in-Fault.field-0) c.in-Fault.field-1))) in
    let alone = ap piece_value c.in-Fault.is ∙ fault-value c.in-Fault.field-0 c.in-Fault.field-1 c.in-Fault.field-2 in
    c.is_empty-in-Fault.ensures ∙ leaf-stands (piece_value c.args.self.now) (fault document) c.args.place.now alone
