use Rattle.tv_lineage.specs.Touching.{given}
use Rattle.tv_lineage.specs.Views.{mark_view}
use Rattle.tv_traces.specs.Feeds.{element_marks}
use Rattle.tv_traces.proofs.Telling.{no-input, none-pushed, pushed-one, some-input}
use Rattle.tv_traces.proofs.used.push_element_mark.Goals as goal

pub returns-in-None : goal.returns-in-None
returns-in-None c = none-pushed _ _ (no-input element_marks c.args.shown.now.flow.now c.args.input c.args.place.now c.as_slice.result.now c.as_slice.ensures c.in-None.ensures.lookup.3)

pub returns-in_ok-push-in-Some : goal.returns-in_ok-push-in-Some
returns-in_ok-push-in-Some c =
    pushed-one mark_view _ _ _ (given c.in-Some.entry.now.0 c.args.place.now) _ c.in_ok-push-in-Some.ensures.items c.in_ok-element_mark-in-Some.ensures
    (some-input element_marks c.args.shown.now.flow.now c.args.input c.args.place.now c.as_slice.result.now c.as_slice.ensures c.in-Some.entry.now c.in-Some.ensures.lookup.3.0 c.in-Some.ensures.lookup.1)
