use Rattle.std.proofs.Common.{◌≡◌, take, map}
use Rattle.tv_flow.specs.Views.{each, flow_view, step_input_view}
use Rattle.tv_check.specs.Tables.{table_depth}
use Rattle.tv_check.proofs.planning.delivered.Given as goal

abbrev pub invariant-loop-port : goal.invariant-loop-port
invariant-loop-port l =
    l.depths.items ≡ map (λ i. (i.0, table_depth (flow_view l.flow) l.levels i.1.from)) (each step_input_view (take l.port-index l.inputs))
