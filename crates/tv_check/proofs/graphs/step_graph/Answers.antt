use Rattle.std.proofs.Common.{map, ap, sym, ◌∙◌, subst, ◌<◌, ◌^◌}
use Rattle.std.proofs.lemmas.List.{length-map}
use Rattle.tv_flow.specs.Views.{each, step_view}
use Rattle.tv_naming.specs.graphs.Graphs.{is_graph}
use Rattle.tv_model.specs.instance.Ranks.{earlier_steps}
use Rattle.tv_check.specs.NamedGraphs.{numbers_of}
use Rattle.tv_naming.proofs.Lists.{map-more, map-now}
use Rattle.tv_check.proofs.GraphLemmas.{graph_of-is, graph_of-each}
use Rattle.tv_check.proofs.graphs.step_graph.Goals as goal

pub of-requires : goal.of-requires
of-requires c = ap is_graph (map-now (λ vs. vs.items) (λ x. numbers_of c.args.steps.now (earlier_steps (step_view x.1))) c.loop-step.before.items c.as_slice-step-items.result.now c.loop-step.step-index c.loop-step-test.false c.loop-step.invariant
    ∙ ap (map (λ x. numbers_of c.args.steps.now (earlier_steps (step_view x.1)))) c.as_slice-step-items.ensures
    ∙ sym (graph_of-each step_view earlier_steps c.args.steps.now)) ∙ graph_of-is (each step_view c.args.steps.now) earlier_steps (subst (λ k. k < 2 ^ 32) (sym (length-map c.args.steps.now (λ x. (x.0, step_view x.1)))) c.requires.few)

pub loop-step-preserved : goal.loop-step-preserved
loop-step-preserved c =
    ap (map (λ vs. vs.items)) c.in_ok-push.ensures.items
    ∙ map-more (λ vs. vs.items) (λ x. numbers_of c.args.steps.now (earlier_steps (step_view x.1))) c.loop-step.before.items _ c.as_slice-step-items.result.now c.loop-step.step-index c.step-item.result c.loop-step-test.true c.step-item.is c.loop-step.invariant c.in_ok-earlier_numbers.ensures

pub returns : goal.returns
returns c = c.of.ensures ∙ (map-now (λ vs. vs.items) (λ x. numbers_of c.args.steps.now (earlier_steps (step_view x.1))) c.loop-step.before.items c.as_slice-step-items.result.now c.loop-step.step-index c.loop-step-test.false c.loop-step.invariant
    ∙ ap (map (λ x. numbers_of c.args.steps.now (earlier_steps (step_view x.1)))) c.as_slice-step-items.ensures
    ∙ sym (graph_of-each step_view earlier_steps c.args.steps.now))
