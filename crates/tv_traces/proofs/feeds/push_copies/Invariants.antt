use Rattle.std.proofs.Common.{◌≡◌, ◌++◌, map, take}
use Rattle.tv_lineage.specs.Views.{mark_view, part_view}
use Rattle.tv_traces.specs.Feeds.{as_part}
use Rattle.tv_traces.proofs.feeds.push_copies.Given as goal

abbrev pub invariant-loop-mark : goal.invariant-loop-mark
invariant-loop-mark l = map part_view l.parts.items ≡ map part_view l.fn.parts.items ++ map as_part (map mark_view (take l.mark-index l.marks))
