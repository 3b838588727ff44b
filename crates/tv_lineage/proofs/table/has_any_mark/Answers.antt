use Rattle.std.proofs.Common.{sym, ◌∙◌}
use Rattle.std.specs.BTreeMap.{get}
use Rattle.tv_value.specs.Orders.{job_name_cmp}
use Rattle.tv_lineage.specs.Tables.{in_table}
use Rattle.tv_lineage.specs.Views.{mark_part}
use Rattle.tv_lineage.proofs.Passing.{any-here}
use Rattle.tv_lineage.proofs.table.has_any_mark.Goals as goal

pub returns-then-has_mark : goal.returns-then-has_mark
returns-then-has_mark c = sym (any-here mark_part (in_table (get job_name_cmp c.args.numbers.now) c.args.port.now c.args.place.now c.args.made.now) c.args.marks.now c.loop-mark.mark-index c.mark-item.result c.loop-mark-test.true c.mark-item.is (sym c.has_mark.ensures ∙ c.if-has_mark.true))
