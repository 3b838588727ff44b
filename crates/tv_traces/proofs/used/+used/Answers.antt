use Rattle.std.proofs.Common.{arith, ◌≡◌, ◌++◌, ◌∷◌, [], ap, ◌∙◌}
use Rattle.tv_traces.specs.Feeds.{job_at}
use Rattle.tv_traces.proofs.Looping.{used-more}
use Rattle.tv_traces.proofs.used.+used.Goals as goal

pub push_item_marks-loop-index-preserved : goal.push_item_marks-loop-index-preserved
push_item_marks-loop-index-preserved t c =
    let same : c.in-Ok.number ≡ c.loop-index.index = omega (arith, c.in-Ok.ensures) in
    used-more (job_at c.args.step.now) c.args.place.now c.args.items.now c.loop-index.index c.index-items-index.result c.loop-index-test.true c.index-items-index.is c.as_slice.result.now (c.as_slice.ensures ∙ c.in_ok-inner.ensures ∙ ap (λ k. c.args.place.now ++ k ∷ []) same) _ _ _ c.loop-index.invariant c.in_ok-push_node_marks.ensures
