use Rattle.std.proofs.Common.{◌≡◌, take, map}
use Rattle.std.specs.Prelude.{flat_map, filter_map}
use Rattle.tv_flow.specs.Views.{activity_view}
use Rattle.tv_check.specs.Cycles.{opened_flow}
use Rattle.tv_check.specs.NamedGraphs.{numbers_of}
use Rattle.tv_check.proofs.graphs.opened_numbers.Given as goal

abbrev pub invariant-loop-step : goal.invariant-loop-step
invariant-loop-step l = l.numbers.items ≡ numbers_of l.flows (flat_map (λ s. filter_map opened_flow (map activity_view s.1.activities)) (take l.step-index l.step-items))
