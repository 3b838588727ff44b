use Rattle.std.proofs.Common.{◌≡◌, map, take}
use Rattle.tv_flow.specs.Views.{step_view}
use Rattle.tv_model.specs.instance.Ranks.{earlier_steps}
use Rattle.tv_check.specs.NamedGraphs.{numbers_of}
use Rattle.tv_check.proofs.graphs.step_graph.Given as goal

abbrev pub invariant-loop-step : goal.invariant-loop-step
invariant-loop-step l = map (λ vs. vs.items) l.before.items ≡ map (λ x. numbers_of l.steps (earlier_steps (step_view x.1))) (take l.step-index l.step-items)
