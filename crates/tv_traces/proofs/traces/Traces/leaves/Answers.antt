use Rattle.std.proofs.Common.{ap, ap₂, ◌∙◌, ◌++◌, ◌≤◌, [], map, length, subst}
use Rattle.tv_flow.specs.Views.{flow_view}
use Rattle.tv_cell.specs.PieceValues.{piece_value}
use Rattle.tv_lineage.specs.Views.{leaf_view}
use Rattle.tv_traces.specs.Feeds.{feed_marks}
use Rattle.tv_traces.specs.Leaves.{leaf_places}
use Rattle.tv_traces.specs.Views.{shapes_view}
use Rattle.tv_traces.proofs.UsedLemmas.{in-outputs, leaves-all, leaves-next}
use Rattle.tv_traces.proofs.traces.Traces.leaves.Goals as goal

pub loop-number-preserved : goal.loop-number-preserved
loop-number-preserved c = λ gives d a e.
    leaves-next gives d c.args.plan.now c.args.self.now a c.args.outs.now e c.loop-number.number
    (in-outputs gives d c.args.plan.now c.args.self.now a c.loop-number.number c.as_slice.result.now c.as_slice.ensures c.in-Some.ensures.lookup.3.0)
    c.as_slice-output-items.result.now c.as_slice-output-items.ensures c.output-item.result c.output-item.is
    c.as_slice.result.now c.as_slice.ensures c.in-Some.feed.now c.in-Some.ensures.lookup.3.0 c.in-Some.ensures.lookup.1
    c.in-Some-get.piece.now c.in-Some-get.ensures.lookup.3.0 c.in-Some-get.ensures.lookup.1
    c.as_slice-in-loop-number.result.now (c.as_slice-in-loop-number.ensures.value ∙ c.in_ok-push_piece_places.ensures ∙ ap (λ l. l ++ leaf_places [] (piece_value c.in-Some-get.piece.now)) c.new-places.ensures.items)
    _ _ (c.loop-number.invariant gives d a e)
    (c.in_ok-push_leaves.ensures ∙ ap₂ (λ f us. map leaf_view c.loop-number.leaves.items ++ map (λ q. record { port = c.output-item.result.0; place = q; used = feed_marks (flow_view f) (shapes_view us) c.in-Some.feed.now q }) c.as_slice-in-loop-number.result.now) c.shown.ensures.flow c.shown.ensures.shapes)

pub returns : goal.returns
returns c = λ gives d a e.
    ap (map leaf_view) c.of-2.ensures ∙ c.loop-number.invariant gives d a e
    ∙ leaves-all gives d c.args.plan.now c.args.self.now a c.loop-number.number (subst (λ os. length os ≤ c.loop-number.number) c.as_slice-output-items.ensures c.loop-number-test.false)
