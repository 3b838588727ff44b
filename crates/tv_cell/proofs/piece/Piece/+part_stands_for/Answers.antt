use Rattle.std.proofs.Common.{◌∙◌, ◌&&◌, ap, get_or, rules, sym, false, Some, None}
use Rattle.std.specs.Option.{option_map_or}
use Rattle.tv_value.specs.Nested.{at, trees_of}
use Rattle.tv_value.specs.Values.{fault, list_value}
use Rattle.tv_value.specs.Views.{view}
use Rattle.tv_cell.specs.Found.{document_of, found_value, with_depth}
use Rattle.tv_cell.specs.PieceValues.{piece_value, piece_values}
use Rattle.tv_value.specs.Sameness.{same_value}
use Rattle.tv_cell.proofs.Parts.{first-at, leaf-is}
use Rattle.tv_cell.proofs.PieceLemmas.{fault-value, got-sound, list-value, pieces-sound}
use Rattle.tv_cell.proofs.piece.Piece.+part_stands_for.Goals as goal

pub part_stands_for-requires : goal.part_stands_for-requires
part_stands_for-requires t c =
    let sound = pieces-sound c.args.self.now c.in-List.pieces c.as_slice.result.now c.in-List.is c.as_slice.ensures c.requires in
    (search rules, got-sound c.as_slice.result.now (get_or c.args.place.now 0 0) c.in-Some.piece.now sound c.in-Some.ensures)

pub returns-in-Some : goal.returns-in-Some
returns-in-Some t c =
    let listed = ap piece_value c.in-List.is ∙ list-value c.in-List.pieces ∙ ap (λ ps. list_value (trees_of (piece_values ps))) (sym c.as_slice.ensures) in
    c.part_stands_for.ensures ∙ ap (λ o. option_map_or (λ w. same_value w (view c.args.value.now)) o false) (first-at piece_value (piece_value c.args.self.now) c.as_slice.result.now c.args.place.now (Some c.in-Some.piece.now) listed c.in-len1-up.len_at_least c.in-Some.ensures)

pub returns-in-None : goal.returns-in-None
returns-in-None t c =
    let listed = ap piece_value c.in-List.is ∙ list-value c.in-List.pieces ∙ ap (λ ps. list_value (trees_of (piece_values ps))) (sym c.as_slice.ensures) in
    ap (λ o. option_map_or (λ w. same_value w (view c.args.value.now)) o false) (first-at piece_value (piece_value c.args.self.now) c.as_slice.result.now c.args.place.now None listed c.in-len1-up.len_at_least c.in-None.ensures)

pub returns-else-is_empty : goal.returns-else-is_empty
returns-else-is_empty t c =
    let document = with_depth c.in-Fault.field-2 (document_of (found_value (at (view c.in-Fault.field-0) c.in-Fault.field-1))) in
    let alone = ap piece_value c.in-Fault.is ∙ fault-value c.in-Fault.field-0 c.in-Fault.field-1 c.in-Fault.field-2 in
    let value = piece_value c.args.self.now in
    c.if-is_empty.false
    ∙ ap (λ b. b && same_value value (view c.args.value.now)) (sym (sym c.is_empty.ensures ∙ c.if-is_empty.false))
    ∙ leaf-is value (view c.args.value.now) (fault document) c.args.place.now alone
