use Rattle.std.proofs.Common.{Some, refl, sym, ap, ◌∙◌}
use Rattle.std.proofs.lemmas.Result.{IfOk-weaker}
use Rattle.tv_value.specs.declared.value.Value.{Value}
use Rattle.tv_cell.specs.Found.{found_value}
use Rattle.tv_cell.proofs.Parts.{part-joined, part-joined-sound}
use Rattle.tv_cell.proofs.PieceLemmas.{part-sound, part-value}
use Rattle.tv_binding.proofs.values.part_value.Goals as goal

pub cell_value-requires : goal.cell_value-requires
cell_value-requires c =
    let x = c.in-Part.cell in
    let j = c.in_ok-joined-in-Part.field-0 in
    sym (part-sound x j)
    ∙ part-joined-sound c.args.piece.now x x c.in-Part.start c.args.place.now j c.in-Part.is refl c.in_ok-joined-in-Part.ensures.ok c.requires.found c.requires.sound

pub returns-in_ok-joined-in-Part : goal.returns-in_ok-joined-in-Part
returns-in_ok-joined-in-Part c =
    let x = c.in-Part.cell in
    let j = c.in_ok-joined-in-Part.field-0 in
    IfOk-weaker c.cell_value-in-Part.result _ _ (λ (v : Value) h.
    part-joined c.args.piece.now x x c.in-Part.start c.args.place.now j c.in-Part.is refl c.in_ok-joined-in-Part.ensures.ok c.requires.found
    ∙ ap Some (part-value x j ∙ ap found_value h)) c.cell_value-in-Part.ensures
