use Rattle.std.specs.BTreeMap.{get}
use Rattle.tv_value.specs.Orders.{job_name_cmp}
use Rattle.tv_lineage.specs.Tables.{IsPass}
use Rattle.tv_lineage.specs.Views.{kept_of}
use Rattle.tv_lineage.proofs.table.pass.Given as goal

abbrev pub invariant-loop-number : goal.invariant-loop-number
invariant-loop-number l = IsPass (get job_name_cmp l.numbers) (kept_of l.entries) l.port l.place l.number l.fn.made.items l.made.items l.added
