use Rattle.std.proofs.Common.{◌∙◌, ap, sym, refl, map}
use Rattle.std.proofs.lemmas.Simd.{map-map}
use Rattle.tv_flow.specs.DocumentViews.{document_view}
use Rattle.tv_flow.specs.Views.{each, flow_view}
use Rattle.tv_check.specs.RankNumbers.{numbers_by_rank}
use Rattle.tv_check.specs.NamedGraphs.{links_inside}
use Rattle.tv_naming.proofs.Forms.{passes-at, flow-at}
use Rattle.tv_naming.proofs.Lists.{list_all-at, map-more, map-now}
use Rattle.tv_check.proofs.orders.orders_of.Goals as goal

pub steps_by_rank-requires-clause-formed : goal.steps_by_rank-requires-clause-formed
steps_by_rank-requires-clause-formed c =
    let d = c.args.document.now in
    flow-at d.flows c.as_slice-flows.result.now (document_view d) d.formed refl c.as_slice-flows.ensures c.loop-entry.entry-index c.entry-item.result c.loop-entry-test.true c.entry-item.is

pub steps_by_rank-requires-clause-inside : goal.steps_by_rank-requires-clause-inside
steps_by_rank-requires-clause-inside c =
    let d = c.args.document.now in
    passes-at flow_view links_inside d.flows c.as_slice-flows.result.now c.as_slice-flows.ensures (λ k x lt. list_all-at (λ f. links_inside f.1) (each flow_view d.flows) k x c.requires lt) c.loop-entry.entry-index c.entry-item.result c.loop-entry-test.true c.entry-item.is

pub loop-entry-preserved : goal.loop-entry-preserved
loop-entry-preserved c =
    ap (map (λ o. o.items)) c.in_ok-push.ensures.items
    ∙ map-more (λ o. o.items) (λ e. numbers_by_rank (flow_view e.1).steps) c.loop-entry.orders.items c.in_ok-steps_by_rank.field-0 c.as_slice-flows.result.now c.loop-entry.entry-index c.entry-item.result c.loop-entry-test.true c.entry-item.is c.loop-entry.invariant c.in_ok-steps_by_rank.ensures.order

pub returns : goal.returns
returns c =
    let d = c.args.document.now in
    map-now (λ o. o.items) (λ e. numbers_by_rank (flow_view e.1).steps) c.loop-entry.orders.items c.as_slice-flows.result.now c.loop-entry.entry-index c.loop-entry-test.false c.loop-entry.invariant
    ∙ ap (map (λ e. numbers_by_rank (flow_view e.1).steps)) c.as_slice-flows.ensures
    ∙ sym (map-map (λ f. numbers_by_rank f.1.steps) (λ e. (e.0, flow_view e.1)) d.flows)
