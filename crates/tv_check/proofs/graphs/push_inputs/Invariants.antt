use Rattle.std.proofs.Common.{◌≡◌, ◌++◌, take}
use Rattle.std.specs.Prelude.{flat_map}
use Rattle.tv_flow.specs.Views.{feed_view}
use Rattle.tv_model.specs.instance.Ranks.{feed_steps}
use Rattle.tv_check.specs.NamedGraphs.{numbers_of}
use Rattle.tv_check.proofs.graphs.push_inputs.Given as goal

abbrev pub invariant-loop-input : goal.invariant-loop-input
invariant-loop-input l = l.numbers.items ≡ l.initial.numbers.items ++ numbers_of l.steps (flat_map (λ i. feed_steps (feed_view i.1.from)) (take l.input-index l.input-items))
