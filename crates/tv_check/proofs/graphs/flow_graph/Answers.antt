use Rattle.std.proofs.Common.{map, ap, sym, ◌∙◌, subst, ◌<◌, ◌^◌}
use Rattle.std.proofs.lemmas.List.{length-map}
use Rattle.tv_flow.specs.Views.{each, flow_view}
use Rattle.tv_naming.specs.graphs.Graphs.{is_graph}
use Rattle.tv_check.specs.Cycles.{opened_flows}
use Rattle.tv_check.specs.NamedGraphs.{numbers_of}
use Rattle.tv_naming.proofs.Lists.{map-more, map-now}
use Rattle.tv_check.proofs.GraphLemmas.{graph_of-is, graph_of-each}
use Rattle.tv_check.proofs.graphs.flow_graph.Goals as goal

pub of-requires : goal.of-requires
of-requires c = ap is_graph (map-now (λ vs. vs.items) (λ x. numbers_of c.args.flows.now (opened_flows (flow_view x.1))) c.loop-flow.before.items c.as_slice-flow-items.result.now c.loop-flow.flow-index c.loop-flow-test.false c.loop-flow.invariant
    ∙ ap (map (λ x. numbers_of c.args.flows.now (opened_flows (flow_view x.1)))) c.as_slice-flow-items.ensures
    ∙ sym (graph_of-each flow_view opened_flows c.args.flows.now)) ∙ graph_of-is (each flow_view c.args.flows.now) opened_flows (subst (λ k. k < 2 ^ 32) (sym (length-map c.args.flows.now (λ x. (x.0, flow_view x.1)))) c.requires.few)

pub loop-flow-preserved : goal.loop-flow-preserved
loop-flow-preserved c =
    ap (map (λ vs. vs.items)) c.in_ok-push.ensures.items
    ∙ map-more (λ vs. vs.items) (λ x. numbers_of c.args.flows.now (opened_flows (flow_view x.1))) c.loop-flow.before.items _ c.as_slice-flow-items.result.now c.loop-flow.flow-index c.flow-item.result c.loop-flow-test.true c.flow-item.is c.loop-flow.invariant c.in_ok-opened_numbers.ensures

pub returns : goal.returns
returns c = c.of.ensures ∙ (map-now (λ vs. vs.items) (λ x. numbers_of c.args.flows.now (opened_flows (flow_view x.1))) c.loop-flow.before.items c.as_slice-flow-items.result.now c.loop-flow.flow-index c.loop-flow-test.false c.loop-flow.invariant
    ∙ ap (map (λ x. numbers_of c.args.flows.now (opened_flows (flow_view x.1)))) c.as_slice-flow-items.ensures
    ∙ sym (graph_of-each flow_view opened_flows c.args.flows.now))
