use Rattle.std.proofs.Common.{◌≡◌, map, take}
use Rattle.tv_flow.specs.Views.{each, step_view}
use Rattle.tv_binding.specs.Constants.{port_constants, cell_values}
use Rattle.tv_binding.proofs.constants.cells_of_steps.Given as goal

abbrev pub invariant-loop-step : goal.invariant-loop-step
invariant-loop-step l = map cell_values l.rows.items ≡ map port_constants (each step_view (take l.step-index l.steps))
