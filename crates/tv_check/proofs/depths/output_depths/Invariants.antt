use Rattle.std.proofs.Common.{◌≡◌, take}
use Rattle.tv_flow.specs.Views.{each, flow_view, feed_view}
use Rattle.tv_check.specs.Tables.{table_depth}
use Rattle.tv_check.proofs.depths.output_depths.Given as goal

abbrev pub invariant-loop-port : goal.invariant-loop-port
invariant-loop-port l = l.depths.items ≡ each (table_depth (flow_view l.flow) l.levels) (each feed_view (take l.port-index l.outputs))
