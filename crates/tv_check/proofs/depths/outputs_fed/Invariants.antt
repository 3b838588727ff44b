use Rattle.std.proofs.Common.{◌≡◌, take, [], flat_map}
use Rattle.tv_flow.specs.Views.{flow_view}
use Rattle.tv_naming.specs.Faulty.{at_flow_output}
use Rattle.tv_check.specs.Depthwise.{fed_complaints}
use Rattle.tv_check.specs.Tables.{known_steps}
use Rattle.tv_check.proofs.depths.outputs_fed.Given as goal

-- nothing is said of the outputs so far
abbrev pub invariant-loop-port : goal.invariant-loop-port
invariant-loop-port l =
    flat_map (λ o. fed_complaints (flow_view l.flow).inputs (known_steps (flow_view l.flow).steps l.levels) (at_flow_output l.name o.0) o.1) (take l.port-index (flow_view l.flow).outputs) ≡ []
