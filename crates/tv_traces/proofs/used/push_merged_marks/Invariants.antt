use Rattle.std.proofs.Common.{◌≡◌, ◌++◌, [], map, take}
use Rattle.tv_flow.specs.Views.{flow_view}
use Rattle.tv_lineage.specs.Views.{mark_view}
use Rattle.tv_traces.specs.Feeds.{element_marks, merge_told, node_marks}
use Rattle.tv_traces.specs.Views.{shapes_view}
use Rattle.tv_traces.proofs.used.push_merged_marks.Given as goal

abbrev pub invariant-loop-link : goal.invariant-loop-link
invariant-loop-link l = map mark_view l.marks.items ≡ map mark_view l.fn.marks.items ++ merge_told element_marks node_marks (flow_view l.shown.flow.now) (shapes_view l.shown.shapes.now) (take l.link-index l.links) []
