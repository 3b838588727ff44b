use Rattle.std.proofs.Common.{◌≡◌, take}
use Rattle.tv_flow.specs.Views.{each, flow_view, step_input_view}
use Rattle.tv_check.specs.Tables.{table_mismatch}
use Rattle.tv_check.proofs.levels.mismatches.Given as goal

abbrev pub invariant-loop-port : goal.invariant-loop-port
invariant-loop-port l =
    l.mismatches.items ≡ each (table_mismatch (flow_view l.flow) l.levels) (each step_input_view (take l.port-index l.inputs))
