use Rattle.std.proofs.Common.{◌≡◌, ◌++◌, map, take}
use Rattle.tv_lineage.specs.Views.{mark_view}
use Rattle.tv_traces.specs.Feeds.{job_at}
use Rattle.tv_traces.specs.Shapes.{shapes_used}
use Rattle.tv_traces.specs.Views.{nodes_view}
use Rattle.tv_traces.proofs.used.+used.Given as goal

abbrev pub invariant-push_item_marks-loop-index : goal.invariant-push_item_marks-loop-index
invariant-push_item_marks-loop-index l = map mark_view l.marks.items ≡ map mark_view l.fn.marks.items ++ shapes_used (job_at l.step) l.place 0 (nodes_view (take l.index l.items))
