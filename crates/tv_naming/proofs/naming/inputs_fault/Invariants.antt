use Rattle.std.proofs.Common.{◌≡◌, map}
use Rattle.std.specs.List.{flat_map}
use Rattle.tv_flow.specs.Views.{flow_view, step_input_view}
use Rattle.tv_naming.specs.Naming.{input_complaints}
use Rattle.tv_naming.specs.Faulty.{first_of}
use Rattle.tv_naming.proofs.Firsts.{from}
use Rattle.tv_naming.proofs.naming.inputs_fault.Given as goal

abbrev pub invariant-loop-port : goal.invariant-loop-port
invariant-loop-port l = first_of (flat_map (input_complaints l.name (flow_view l.flow) l.step_name) (map (λ e. (e.0, step_input_view e.1)) l.inputs)) ≡ from (input_complaints l.name (flow_view l.flow) l.step_name) (λ e. (e.0, step_input_view e.1)) l.port-index l.port-items
