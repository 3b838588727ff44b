use Rattle.std.proofs.Common.{◌≡◌, ◌++◌, ◌∷◌, [], take}
use Rattle.std.specs.Prelude.{flat_map, filter_map}
use Rattle.tv_flow.specs.Views.{activity_view}
use Rattle.tv_check.specs.Cycles.{opened_flow}
use Rattle.tv_check.specs.NamedGraphs.{numbers_of}
use Rattle.tv_check.proofs.graphs.push_activities.Given as goal

abbrev pub invariant-loop-activity : goal.invariant-loop-activity
invariant-loop-activity l = l.numbers.items ≡ l.initial.numbers.items ++ numbers_of l.flows (flat_map (λ a. filter_map opened_flow (activity_view a ∷ [])) (take l.activity-index l.activity-items))
