use Rattle.std.proofs.Common.{◌<◌, false, length, map, slice_index_or, ap, sym, subst, ◌∙◌}
use Rattle.std.proofs.lemmas.List.{get_or-map, length-map}
use Rattle.tv_value.specs.Values.{holds_fault}
use Rattle.tv_cell.specs.PieceValues.{piece_value}
use Rattle.tv_telling.specs.Openings.{IsInput}
use Rattle.tv_telling.proofs.opening.link_start.Goals as goal

pub tell_known-requires : goal.tell_known-requires
tell_known-requires c =
    let xs = c.args.inputs.now in
    let i = c.in-Input.input in
    let x = c.index-inputs-input.result in
    let vs = map piece_value xs in
    let within : i < length xs = subst (IsInput (length xs)) c.in-Input.is c.requires.input in
    let inside : i < length vs = subst (λ n. i < n) (sym (length-map xs piece_value)) within in
    ap (λ bs. slice_index_or bs i false) c.requires.faulty
    ∙ get_or-map holds_fault vs i (piece_value x) false inside
    ∙ ap holds_fault (get_or-map piece_value xs i x (piece_value x) within)
    ∙ ap (λ p. holds_fault (piece_value p)) (sym c.index-inputs-input.is)
