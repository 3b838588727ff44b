use Rattle.std.proofs.Common.{sym, ◌∙◌}
use Rattle.std.specs.BTreeMap.{get}
use Rattle.tv_value.specs.Orders.{job_name_cmp}
use Rattle.tv_lineage.specs.Tables.{in_table}
use Rattle.tv_lineage.specs.Views.{part_view}
use Rattle.tv_lineage.proofs.Passing.{any-here}
use Rattle.tv_lineage.proofs.table.has_any_part.Goals as goal

pub returns-then-has_part : goal.returns-then-has_part
returns-then-has_part c = sym (any-here part_view (in_table (get job_name_cmp c.args.numbers.now) c.args.port.now c.args.place.now c.args.made.now) c.args.parts.now c.loop-part.part-index c.part-item.result c.loop-part-test.true c.part-item.is (sym c.has_part.ensures ∙ c.if-has_part.true))
