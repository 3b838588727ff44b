use Rattle.std.proofs.Common.{Some, sym, ap, ◌∙◌}
use Rattle.std.specs.Prelude.{option_map}
use Rattle.std.proofs.lemmas.Result.{IfOk-weaker}
use Rattle.tv_cell.specs.declared.piece.Piece.{Piece}
use Rattle.tv_cell.specs.PieceValues.{piece_value}
use Rattle.tv_binding.specs.Delivered.{wrapped_value}
use Rattle.tv_binding.specs.Found.{feed_found}
use Rattle.tv_binding.specs.Jobs.{wraps}
use Rattle.tv_binding.specs.Sourced.{known_by}
use Rattle.tv_binding.proofs.jobs.port_piece.Goals as goal

pub returns-clause-value : goal.returns-clause-value
returns-clause-value c =
    let k = known_by c.args.sources.now in
    let s = c.args.step.now in
    let w = wraps s.inputs.now s.delivered.now c.args.number in
    let x = piece_value c.in_ok-piece.piece in
    IfOk-weaker c.wrap.result _ _ (λ (p : Piece) h.
    ap (λ o. option_map (wrapped_value w) (feed_found k c.args.port.now.feed o c.args.part.now)) (sym c.of_port-constant.ensures)
    ∙ ap (option_map (wrapped_value w)) c.in_ok-piece.ensures.value
    ∙ ap Some (ap (λ n. wrapped_value n x) (sym c.wraps_of.ensures) ∙ sym h)) c.wrap.ensures.value
