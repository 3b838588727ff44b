use Rattle.std.proofs.Common.{◌≡◌, ◌∙◌, ◌<◌, ap, refl, subst, sym, drop, slice_index_or}
use Rattle.std.proofs.lemmas.Option.{same_Some}
use Rattle.std.specs.Bool.{IsTrue}
use Rattle.std.specs.Option.{is_some}
use Rattle.tv_binding.specs.Constants.{constant_of_port, constants_view}
use Rattle.tv_binding.specs.declared.constants.Constants.{Constants}
use Rattle.tv_frame.specs.declared.tables.Tables.{Tables}
use Rattle.tv_frame.proofs.FaultingRead.{fault-read, feed-few, leaf-within, ok-weaken, port-within, ports-read, ports-within, start-is, step-small}
use Rattle.tv_frame.proofs.frame.Frame.passed_piece.Goals as goal

pub index-requires-2 : goal.index-requires-2
index-requires-2 c =
    let r = c.requires in
    subst (λ m. c.args.leaf < m) (sym c.index.result.now.ok.0) (leaf-within r.0 c.args.plan.now c.args.pool.now c.args.self.now r.1 c.args.step r.2 r.3 r.4 c.args.place.now c.args.leaf r.5 c.index.result.now (c.index.ensures ∙ ap (λ (t : Tables). slice_index_or t.starts.items c.args.step c.index.result.now) c.read.ensures))

pub offset_bounds-as_slice-step : goal.offset_bounds-as_slice-step
offset_bounds-as_slice-step c =
    let r = c.requires in
    step-small r.0 c.args.plan.now c.args.pool.now c.args.self.now r.1 c.args.step r.2 r.3 r.4 c.args.place.now c.args.leaf r.5

pub bounds-as_slice-step : goal.bounds-as_slice-step
bounds-as_slice-step c =
    let r = c.requires in
    ports-within r.0 c.args.plan.now c.args.pool.now c.args.self.now r.1 c.args.step r.2 r.3 r.4 c.args.place.now c.args.leaf r.5 c.as_slice-2.result.now c.as_slice-2.ensures

pub bounds-ports-number : goal.bounds-ports-number
bounds-ports-number c =
    let i = c.index-as_slice-step.is in
    let here : c.index-as_slice-step.result ≡ slice_index_or c.as_slice-2.result.now c.args.step c.index-as_slice-step.result = cc in
    let r = c.requires in
    port-within r.0 c.args.plan.now c.args.pool.now c.args.self.now r.1 c.args.step r.2 r.3 r.4 c.args.place.now c.args.leaf r.5 c.as_slice-ports.result.now
    (ports-read r.0 c.args.plan.now c.args.pool.now c.args.self.now r.1 c.args.step r.2 r.3 r.4 c.args.place.now c.args.leaf r.5 c.as_slice-2.result.now c.index-as_slice-step.result c.as_slice-ports.result.now c.as_slice-2.ensures (c.as_slice-ports.ensures ∙ here))
    c.port_of-number.result c.port_of-number.ensures.found

pub feed_piece-requires-clause-counted : goal.feed_piece-requires-clause-counted
feed_piece-requires-clause-counted c =
    let i = c.index-as_slice-step.is in
    let here : c.index-as_slice-step.result ≡ slice_index_or c.as_slice-2.result.now c.args.step c.index-as_slice-step.result = cc in
    let r = c.requires in
    feed-few r.0 c.args.plan.now c.args.pool.now c.args.self.now r.1 c.args.step r.2 r.3 r.4 c.args.place.now c.args.leaf r.5 c.as_slice-ports.result.now
    (ports-read r.0 c.args.plan.now c.args.pool.now c.args.self.now r.1 c.args.step r.2 r.3 r.4 c.args.place.now c.args.leaf r.5 c.as_slice-2.result.now c.index-as_slice-step.result c.as_slice-ports.result.now c.as_slice-2.ensures (c.as_slice-ports.ensures ∙ here))
    c.port_of-number.result c.port_of-number.ensures.found
    c.sources-sources.result c.sources-sources.ensures.inputs c.sources-sources.ensures.outputs c.sources-sources.ensures.pool c.sources-sources.ensures.firsts
    c.index-ports-number.result

pub feed_piece-requires-clause-found : goal.feed_piece-requires-clause-found
feed_piece-requires-clause-found c =
    let i = c.index-as_slice-step.is in
    let here : c.index-as_slice-step.result ≡ slice_index_or c.as_slice-2.result.now c.args.step c.index-as_slice-step.result = cc in
    let r = c.requires in
    let e = fault-read r.0 c.args.plan.now c.args.pool.now c.args.self.now r.1 c.args.step r.2 r.3 r.4 c.args.place.now c.args.leaf r.5 c.as_slice-ports.result.now
    (ports-read r.0 c.args.plan.now c.args.pool.now c.args.self.now r.1 c.args.step r.2 r.3 r.4 c.args.place.now c.args.leaf r.5 c.as_slice-2.result.now c.index-as_slice-step.result c.as_slice-ports.result.now c.as_slice-2.ensures (c.as_slice-ports.ensures ∙ here))
    c.port_of-number.result c.port_of-number.ensures.found
    c.sources-sources.result c.sources-sources.ensures.inputs c.sources-sources.ensures.outputs c.sources-sources.ensures.pool c.sources-sources.ensures.firsts
    c.index-ports-number.result _
    (c.of_port-constant.ensures ∙ ap (λ (k : Constants). constant_of_port (constants_view k) c.args.step c.port_of-number.result) c.constants.ensures)
    c.index-2.result.now
    (start-is r.0 c.args.plan.now c.args.pool.now c.args.self.now r.1 c.args.step r.2 r.3 r.4 c.args.place.now c.args.leaf r.5 c.index.result.now c.index-2.result.now
    (c.index.ensures ∙ ap (λ (t : Tables). slice_index_or t.starts.items c.args.step c.index.result.now) c.read.ensures) c.index-2.ensures)
    _ (c.rest_of-inside.ensures ∙ ap (drop c.index-2.result.now) c.as_slice.ensures) in
    subst (λ o. IsTrue (is_some o)) (sym e.1) refl

pub returns-clause-value : goal.returns-clause-value
returns-clause-value c =
    let i = c.index-as_slice-step.is in
    let here : c.index-as_slice-step.result ≡ slice_index_or c.as_slice-2.result.now c.args.step c.index-as_slice-step.result = cc in
    ok-weaken _ _ c.feed_piece.result
    (λ p found. λ flows v s keeps at waits.
    let e = fault-read flows c.args.plan.now c.args.pool.now c.args.self.now v c.args.step s keeps at c.args.place.now c.args.leaf waits c.as_slice-ports.result.now
    (ports-read flows c.args.plan.now c.args.pool.now c.args.self.now v c.args.step s keeps at c.args.place.now c.args.leaf waits c.as_slice-2.result.now c.index-as_slice-step.result c.as_slice-ports.result.now c.as_slice-2.ensures (c.as_slice-ports.ensures ∙ here))
    c.port_of-number.result c.port_of-number.ensures.found
    c.sources-sources.result c.sources-sources.ensures.inputs c.sources-sources.ensures.outputs c.sources-sources.ensures.pool c.sources-sources.ensures.firsts
    c.index-ports-number.result _
    (c.of_port-constant.ensures ∙ ap (λ (k : Constants). constant_of_port (constants_view k) c.args.step c.port_of-number.result) c.constants.ensures)
    c.index-2.result.now
    (start-is flows c.args.plan.now c.args.pool.now c.args.self.now v c.args.step s keeps at c.args.place.now c.args.leaf waits c.index.result.now c.index-2.result.now
    (c.index.ensures ∙ ap (λ (t : Tables). slice_index_or t.starts.items c.args.step c.index.result.now) c.read.ensures) c.index-2.ensures)
    _ (c.rest_of-inside.ensures ∙ ap (drop c.index-2.result.now) c.as_slice.ensures) in
    (e.0, same_Some _ _ (sym found ∙ e.1), e.2))
    c.feed_piece.ensures.value
