use Rattle.std.proofs.Common.{◌≡◌, ◌++◌, [], map, take}
use Rattle.tv_flow.specs.Views.{flow_view}
use Rattle.tv_lineage.specs.Views.{part_view}
use Rattle.tv_traces.specs.Feeds.{element_parts, merge_told, node_parts}
use Rattle.tv_traces.specs.Views.{shapes_view}
use Rattle.tv_traces.proofs.feeds.push_merged_parts.Given as goal

abbrev pub invariant-loop-link : goal.invariant-loop-link
invariant-loop-link l = map part_view l.parts.items ≡ map part_view l.fn.parts.items ++ merge_told element_parts node_parts (flow_view l.shown.flow.now) (shapes_view l.shown.shapes.now) (take l.link-index l.links) []
