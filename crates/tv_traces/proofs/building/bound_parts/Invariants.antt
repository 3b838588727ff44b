use Rattle.std.proofs.Common.{◌≡◌, map, take}
use Rattle.tv_flow.specs.Views.{flow_view}
use Rattle.tv_lineage.specs.Views.{part_view}
use Rattle.tv_traces.specs.Walking.{bound_parts}
use Rattle.tv_traces.specs.Views.{shapes_view}
use Rattle.tv_traces.proofs.building.bound_parts.Given as goal

abbrev pub invariant-loop-port : goal.invariant-loop-port
invariant-loop-port l = map part_view l.parts.items ≡ bound_parts (flow_view l.walk.shown.flow.now) (shapes_view l.walk.shown.shapes.now) (take l.port-index l.port-items) l.walk.starts.now l.place
