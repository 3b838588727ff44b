use Rattle.std.proofs.Common.{◌≡◌, map, max, drop}
use Rattle.std.specs.Prelude.{slice_index}
use Rattle.tv_naming.specs.graphs.Graphs.{greatest}
use Rattle.tv_naming.proofs.graphs.orders.greatest_height.Given as goal

abbrev pub invariant-loop-vertex : goal.invariant-loop-vertex
invariant-loop-vertex l = max l.greatest (greatest (map (slice_index l.heights) (drop l.vertex-index l.vertices))) ≡ greatest (map (slice_index l.heights) l.vertices)
