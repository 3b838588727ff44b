use Rattle.std.proofs.Common.{ap, ◌∙◌}
use Rattle.tv_lineage.specs.Kept.{element}
use Rattle.tv_lineage.specs.Views.{part_view}
use Rattle.tv_traces.specs.Feeds.{as_part, element_parts}
use Rattle.tv_traces.proofs.Nodes.{single}
use Rattle.tv_traces.proofs.Telling.{no-input, none-pushed, pushed-one, some-input}
use Rattle.tv_traces.proofs.feeds.push_element_part.Goals as goal

pub returns-in-None : goal.returns-in-None
returns-in-None c = none-pushed _ _ (no-input element_parts c.args.shown.now.flow.now c.args.input c.args.place.now c.as_slice.result.now c.as_slice.ensures c.in-None.ensures.lookup.3)

pub returns-in_ok-push-in-Some : goal.returns-in_ok-push-in-Some
returns-in_ok-push-in-Some c =
    pushed-one part_view _ _ _ (element c.in-Some.entry.now.0 c.args.place.now) _ c.in_ok-push-in-Some.ensures.items
    (single c.in_ok-element_mark-in-Some.field-0 ∙ ap as_part c.in_ok-element_mark-in-Some.ensures)
    (some-input element_parts c.args.shown.now.flow.now c.args.input c.args.place.now c.as_slice.result.now c.as_slice.ensures c.in-Some.entry.now c.in-Some.ensures.lookup.3.0 c.in-Some.ensures.lookup.1)
