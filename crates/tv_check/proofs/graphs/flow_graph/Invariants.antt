use Rattle.std.proofs.Common.{◌≡◌, map, take}
use Rattle.tv_flow.specs.Views.{flow_view}
use Rattle.tv_check.specs.Cycles.{opened_flows}
use Rattle.tv_check.specs.NamedGraphs.{numbers_of}
use Rattle.tv_check.proofs.graphs.flow_graph.Given as goal

abbrev pub invariant-loop-flow : goal.invariant-loop-flow
invariant-loop-flow l = map (λ vs. vs.items) l.before.items ≡ map (λ x. numbers_of l.flows (opened_flows (flow_view x.1))) (take l.flow-index l.flow-items)
