use Rattle.std.proofs.Common.{◌≡◌, take, [], flat_map}
use Rattle.tv_flow.specs.Views.{each, flow_view, step_input_view}
use Rattle.tv_naming.specs.Faulty.{at_input}
use Rattle.tv_check.specs.Depthwise.{fed_complaints}
use Rattle.tv_check.specs.Tables.{known_steps}
use Rattle.tv_check.proofs.levels.inputs_fed.Given as goal

-- nothing is said of the ports so far
abbrev pub invariant-loop-port : goal.invariant-loop-port
invariant-loop-port l =
    flat_map (λ i. fed_complaints (flow_view l.flow).inputs (known_steps (flow_view l.flow).steps l.levels) (at_input l.name l.step_name i.0) i.1.from) (take l.port-index (each step_input_view l.inputs)) ≡ []
