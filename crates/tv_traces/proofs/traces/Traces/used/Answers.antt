use Rattle.std.proofs.Common.{sym, ap, ap₂, ◌∙◌, ◌++◌, Some, map}
use Rattle.std.specs.Prelude.{option_map, is_some}
use Rattle.tv_value.specs.Nested.{at}
use Rattle.tv_flow.specs.Views.{flow_view}
use Rattle.tv_cell.specs.PieceValues.{piece_value}
use Rattle.tv_lineage.specs.Views.{mark_view}
use Rattle.tv_model.specs.records.Recorded.{marks_of}
use Rattle.tv_traces.specs.Feeds.{feed_marks}
use Rattle.tv_naming.specs.Numbers.{position}
use Rattle.tv_traces.specs.Views.{shapes_view}
use Rattle.tv_traces.proofs.UsedLemmas.{has-value, in-outputs, none-named, not-there, used-there}
use Rattle.tv_traces.proofs.traces.Traces.used.Goals as goal

pub returns-in_default : goal.returns-in_default
returns-in_default c = λ gives d a e.
    sym (ap (option_map marks_of) (none-named gives d c.args.plan.now c.args.self.now a c.args.port.now c.args.place.now
    (not-there gives d c.args.plan.now c.args.self.now a c.args.port.now c.position_of-number.result (c.position_of-number.ensures ∙ ap (position c.args.port.now) c.as_slice.ensures) c.as_slice-2.result.now c.as_slice-2.ensures c.in_default.ensures.lookup.3)))

pub returns-in_default-get : goal.returns-in_default-get
returns-in_default-get c = λ gives d a e. has-value gives d c.args.plan.now c.args.self.now a c.position_of-number.result c.as_slice-2.result.now c.as_slice-2.ensures c.in-Some.ensures.lookup.3.0 c.args.outs.now e c.in_default-get.ensures.lookup.3

pub returns-then-not-has : goal.returns-then-not-has
returns-then-not-has c = λ gives d a e.
    used-there gives d c.args.plan.now c.args.self.now a c.args.port.now c.args.place.now c.position_of-number.result
    (in-outputs gives d c.args.plan.now c.args.self.now a c.position_of-number.result c.as_slice-2.result.now c.as_slice-2.ensures c.in-Some.ensures.lookup.3.0)
    (sym (c.position_of-number.ensures ∙ ap (position c.args.port.now) c.as_slice.ensures))
    c.as_slice-2.result.now c.as_slice-2.ensures c.in-Some.feed.now c.in-Some.ensures.lookup.3.0 c.in-Some.ensures.lookup.1
    c.args.outs.now e c.in-Some-get.piece.now c.in-Some-get.ensures.lookup.3.0 c.in-Some-get.ensures.lookup.1 _ (c.if-not-has.ensures ∙ ap (λ q. is_some (at (piece_value c.in-Some-get.piece.now) q)) c.as_slice-3.ensures)

pub returns : goal.returns
returns c = λ gives d a e.
    ap (λ l. Some l)
    (ap (map mark_view) c.of.ensures ∙ c.in_ok-push_feed_marks.ensures
    ∙ ap (λ l. map mark_view l ++ feed_marks (flow_view c.shown.result.flow.now) (shapes_view c.shown.result.shapes.now) c.in-Some.feed.now c.as_slice-4.result.now) c.new-marks.ensures.items
    ∙ ap₂ (λ f us. feed_marks (flow_view f) (shapes_view us) c.in-Some.feed.now c.as_slice-4.result.now) c.shown.ensures.flow c.shown.ensures.shapes
    ∙ ap (feed_marks (flow_view c.args.plan.now.flow) (shapes_view c.args.self.now.shapes.items) c.in-Some.feed.now) c.as_slice-4.ensures)
    ∙ used-there gives d c.args.plan.now c.args.self.now a c.args.port.now c.args.place.now c.position_of-number.result
    (in-outputs gives d c.args.plan.now c.args.self.now a c.position_of-number.result c.as_slice-2.result.now c.as_slice-2.ensures c.in-Some.ensures.lookup.3.0)
    (sym (c.position_of-number.ensures ∙ ap (position c.args.port.now) c.as_slice.ensures))
    c.as_slice-2.result.now c.as_slice-2.ensures c.in-Some.feed.now c.in-Some.ensures.lookup.3.0 c.in-Some.ensures.lookup.1
    c.args.outs.now e c.in-Some-get.piece.now c.in-Some-get.ensures.lookup.3.0 c.in-Some-get.ensures.lookup.1 _ (c.if-not-has.ensures ∙ ap (λ q. is_some (at (piece_value c.in-Some-get.piece.now) q)) c.as_slice-3.ensures)
