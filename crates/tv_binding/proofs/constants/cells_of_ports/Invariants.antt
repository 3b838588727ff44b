use Rattle.std.proofs.Common.{◌≡◌, map, take}
use Rattle.tv_flow.specs.Views.{each, step_input_view}
use Rattle.tv_binding.specs.Constants.{constant_in, cell_values}
use Rattle.tv_binding.proofs.constants.cells_of_ports.Given as goal

abbrev pub invariant-loop-input : goal.invariant-loop-input
invariant-loop-input l = cell_values l.cells.items ≡ map (λ i. constant_in i.1.from) (each step_input_view (take l.input-index l.inputs))
