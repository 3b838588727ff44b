use Rattle.std.proofs.Common.{arith, ◌≡◌, ◌++◌, ◌∷◌, [], ap, ◌∙◌}
use Rattle.tv_cell.specs.PieceValues.{piece_value}
use Rattle.tv_traces.proofs.Looping.{places-more}
use Rattle.tv_traces.proofs.places.+leaves.Goals as goal

pub push_pieces_places-loop-index-preserved : goal.push_pieces_places-loop-index-preserved
push_pieces_places-loop-index-preserved t c =
    let same : c.in-Ok.number ≡ c.loop-index.index = omega (arith, c.in-Ok.ensures) in
    places-more piece_value c.args.place.now c.args.pieces.now c.loop-index.index c.index-pieces-index.result c.loop-index-test.true c.index-pieces-index.is c.as_slice.result.now (c.as_slice.ensures ∙ c.in_ok-inner.ensures ∙ ap (λ k. c.args.place.now ++ k ∷ []) same) _ _ _ c.loop-index.invariant c.in_ok-push_piece_places.ensures
