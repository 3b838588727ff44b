use Rattle.std.proofs.Common.{arith, ◌≡◌, ◌++◌, ◌∷◌, [], ap, ◌∙◌}
use Rattle.tv_value.specs.Views.{view}
use Rattle.tv_traces.proofs.Looping.{places-more}
use Rattle.tv_traces.proofs.places.+value_leaves.Goals as goal

pub push_values_places-loop-index-preserved : goal.push_values_places-loop-index-preserved
push_values_places-loop-index-preserved t c =
    let same : c.in-Ok.number ≡ c.loop-index.index = omega (arith, c.in-Ok.ensures) in
    places-more view c.args.place.now c.args.values.now c.loop-index.index c.index-values-index.result c.loop-index-test.true c.index-values-index.is c.as_slice.result.now (c.as_slice.ensures ∙ c.in_ok-inner.ensures ∙ ap (λ k. c.args.place.now ++ k ∷ []) same) _ _ _ c.loop-index.invariant c.in_ok-push_value_places.ensures
