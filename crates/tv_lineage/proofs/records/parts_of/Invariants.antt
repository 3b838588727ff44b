use Rattle.std.proofs.Common.{map, ◌≡◌}
use Rattle.tv_lineage.specs.Views.{mark_part, part_view}
use Rattle.tv_lineage.proofs.records.parts_of.Given as goal

abbrev pub invariant-loop-mark : goal.invariant-loop-mark
invariant-loop-mark l = map part_view l.parts.items ≡ map mark_part l.yielded
