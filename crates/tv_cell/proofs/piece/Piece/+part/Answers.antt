use Rattle.std.proofs.Common.{rules, Some, is_some, ap, sym, ◌∙◌}
use Rattle.std.proofs.lemmas.Result.{IfOk-weaker}
use Rattle.tv_cell.specs.declared.piece.Piece.{Piece}
use Rattle.tv_cell.specs.PieceValues.{piece_value}
use Rattle.tv_cell.proofs.Parts.{fault-alone, inner-at, inner-sound, inner-within, part-joined, part-joined-sound}
use Rattle.tv_cell.proofs.piece.Piece.+part.Goals as goal

pub bounds-pieces-first : goal.bounds-pieces-first
bounds-pieces-first t c = inner-within c.args.self.now c.in-List.pieces c.as_slice-pieces.result.now c.args.place.now c.in-List.is c.as_slice-pieces.ensures c.in-len1-up.len_at_least c.requires

pub part-requires : goal.part-requires
part-requires t c =
    let here = inner-at c.args.self.now c.in-List.pieces c.as_slice-pieces.result.now c.args.place.now c.index-pieces-first.result c.in-List.is c.as_slice-pieces.ensures c.in-len1-up.len_at_least c.requires c.index-pieces-first.is in
    (search rules, sym (ap is_some here) ∙ c.requires)

pub returns-in_ok-joined-in-Part-clause-value : goal.returns-in_ok-joined-in-Part-clause-value
returns-in_ok-joined-in-Part-clause-value t c =
    part-joined c.args.self.now c.in-Part.cell c.in_ok-cell-in-Part.cell c.in-Part.start c.args.place.now
    c.in_ok-joined-in-Part.field-0 c.in-Part.is c.in_ok-cell-in-Part.ensures
    c.in_ok-joined-in-Part.ensures.ok c.requires

pub returns-in_ok-joined-in-Part-clause-sound : goal.returns-in_ok-joined-in-Part-clause-sound
returns-in_ok-joined-in-Part-clause-sound t c =
    part-joined-sound c.args.self.now c.in-Part.cell c.in_ok-cell-in-Part.cell c.in-Part.start c.args.place.now
    c.in_ok-joined-in-Part.field-0 c.in-Part.is c.in_ok-cell-in-Part.ensures
    c.in_ok-joined-in-Part.ensures.ok c.requires

pub returns-in-len1-up-clause-value : goal.returns-in-len1-up-clause-value
returns-in-len1-up-clause-value t c =
    let here = inner-at c.args.self.now c.in-List.pieces c.as_slice-pieces.result.now c.args.place.now c.index-pieces-first.result c.in-List.is c.as_slice-pieces.ensures c.in-len1-up.len_at_least c.requires c.index-pieces-first.is in
    IfOk-weaker c.part.result _ _ (λ (p : Piece) h. here ∙ h) c.part.ensures.value

pub returns-in-len1-up-clause-sound : goal.returns-in-len1-up-clause-sound
returns-in-len1-up-clause-sound t c =
    λ s. c.part.ensures.sound (inner-sound c.args.self.now c.in-List.pieces c.as_slice-pieces.result.now c.args.place.now c.index-pieces-first.result c.in-List.is c.as_slice-pieces.ensures c.in-len1-up.len_at_least c.requires c.index-pieces-first.is s)

pub returns-in-Fault-clause-value : goal.returns-in-Fault-clause-value
returns-in-Fault-clause-value t c =
    let here = fault-alone c.args.self.now c.in-Fault.field-0 c.in-Fault.field-1 c.in-Fault.field-2 c.args.place.now c.in-Fault.is c.requires in
    IfOk-weaker c.copy-in-Fault.result _ _ (λ (p : Piece) h. here ∙ ap (λ x. Some (piece_value x)) (sym h)) c.copy-in-Fault.ensures
