use Rattle.std.proofs.Common.{◌≡◌, map, take, Some}
use Rattle.tv_value.specs.Views.{strategy_view, view}
use Rattle.tv_strategy.specs.Conditions.{number_of}
use Rattle.tv_strategy.specs.Splits.{split}
use Rattle.tv_naming.specs.Naming.{numbered}
use Rattle.tv_binding.specs.Constants.{constants_view}
use Rattle.tv_binding.specs.Jobs.{port_found}
use Rattle.tv_binding.specs.Sourced.{known_by}
use Rattle.tv_binding.proofs.values.job_values.Given as goal

abbrev pub invariant-loop-number : goal.invariant-loop-number
invariant-loop-number l =
    map Some (map view l.values.items)
    ≡ take l.number (map (port_found (known_by l.sources) (constants_view l.constants) l.step (split (number_of l.step.mismatch.now) (strategy_view l.step.tree.now) l.place)) (numbered 0 l.step.ports.now))
