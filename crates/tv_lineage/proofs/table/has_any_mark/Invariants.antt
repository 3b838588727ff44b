use Rattle.std.proofs.Common.{false, map, take, ◌≡◌}
use Rattle.std.specs.BTreeMap.{get}
use Rattle.std.specs.List.{list_any}
use Rattle.tv_value.specs.Orders.{job_name_cmp}
use Rattle.tv_lineage.specs.Tables.{in_table}
use Rattle.tv_lineage.specs.Views.{mark_part}
use Rattle.tv_lineage.proofs.table.has_any_mark.Given as goal

abbrev pub invariant-loop-mark : goal.invariant-loop-mark
invariant-loop-mark l = list_any (in_table (get job_name_cmp l.numbers) l.port l.place l.made) (map mark_part (take l.mark-index l.marks)) ≡ false
