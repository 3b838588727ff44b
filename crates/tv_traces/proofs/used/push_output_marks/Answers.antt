use Rattle.std.proofs.Common.{arith, length, refl, ◌≤◌, ◌<◌, None, Some, take}
use Rattle.tv_traces.specs.Feeds.{node_marks}
use Rattle.tv_traces.specs.Views.{node_view}
use Rattle.tv_traces.proofs.Telling.{at-node, no-node, no-out, no-step, none-pushed, on-told}
use Rattle.tv_traces.proofs.used.push_output_marks.Goals as goal

pub returns-in_default : goal.returns-in_default
returns-in_default c = none-pushed _ _ (no-step node_marks (λ s q. refl) c.args.shown.now.flow.now c.args.shown.now.shapes.now c.args.step c.args.output c.args.place.now c.as_slice.result.now c.as_slice.ensures c.in_default.ensures.lookup.3)

pub returns-then-output-as_slice : goal.returns-then-output-as_slice
returns-then-output-as_slice c =
    let le : length c.as_slice-2.result.now ≤ c.args.output = omega arith in
    none-pushed _ _ (no-out node_marks (λ s q. refl) c.args.shown.now.flow.now c.args.shown.now.shapes.now c.args.step c.args.output c.args.place.now c.as_slice.result.now c.as_slice.ensures c.in-Some.entry.now c.in-Some.ensures.lookup.3.0 c.in-Some.ensures.lookup.1 c.as_slice-2.result.now c.as_slice-2.ensures le)

pub returns-in_default-get : goal.returns-in_default-get
returns-in_default-get c =
    let lt : c.args.output < length c.as_slice-2.result.now = omega arith in
    none-pushed _ _ (no-node node_marks (λ s q. refl) c.args.shown.now.flow.now c.args.shown.now.shapes.now c.args.step c.args.output c.args.place.now c.as_slice.result.now c.as_slice.ensures c.in-Some.entry.now c.in-Some.ensures.lookup.3.0 c.in-Some.ensures.lookup.1 c.as_slice-2.result.now c.as_slice-2.ensures lt c.args.shown.now.shapes.now refl c.in_default-get.ensures.lookup.3)

pub returns-in-None : goal.returns-in-None
returns-in-None c =
    let lt : c.args.output < length c.as_slice-2.result.now = omega arith in
    none-pushed _ _ (at-node node_marks (λ s q. refl) c.args.shown.now.flow.now c.args.shown.now.shapes.now c.args.step c.args.output c.args.place.now c.as_slice.result.now c.as_slice.ensures c.in-Some.entry.now c.in-Some.ensures.lookup.3.0 c.in-Some.ensures.lookup.1 c.as_slice-2.result.now c.as_slice-2.ensures lt c.args.shown.now.shapes.now refl c.in-Some-get.node.now c.in-Some-get.ensures.lookup.3.0 c.in-Some-get.ensures.lookup.1 None c.in-None.ensures.node)

pub returns-in-Some-way_to : goal.returns-in-Some-way_to
returns-in-Some-way_to c =
    let lt : c.args.output < length c.as_slice-2.result.now = omega arith in
    on-told c.push_node_marks.result _ _ _ _ c.push_node_marks.ensures
    (at-node node_marks (λ s q. refl) c.args.shown.now.flow.now c.args.shown.now.shapes.now c.args.step c.args.output c.args.place.now c.as_slice.result.now c.as_slice.ensures c.in-Some.entry.now c.in-Some.ensures.lookup.3.0 c.in-Some.ensures.lookup.1 c.as_slice-2.result.now c.as_slice-2.ensures lt c.args.shown.now.shapes.now refl c.in-Some-get.node.now c.in-Some-get.ensures.lookup.3.0 c.in-Some-get.ensures.lookup.1 (Some (take c.in-Some-way_to.there.taken c.args.place.now, node_view c.in-Some-way_to.there.node.now)) c.in-Some-way_to.ensures.node)
