use Rattle.std.proofs.Common.{◌≡◌, ◌++◌, map, take}
use Rattle.tv_lineage.specs.Views.{mark_view}
use Rattle.tv_traces.proofs.used.push_same.Given as goal

abbrev pub invariant-loop-mark : goal.invariant-loop-mark
invariant-loop-mark l = map mark_view l.marks.items ≡ map mark_view l.fn.marks.items ++ map mark_view (take l.mark-index l.own)
