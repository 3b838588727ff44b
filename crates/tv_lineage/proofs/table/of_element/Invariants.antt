use Rattle.std.proofs.Common.{false, if◌then◌else◌, length, ◌+◌, ◌≡◌}
use Rattle.std.specs.BTreeMap.{get}
use Rattle.tv_value.specs.Orders.{job_name_cmp}
use Rattle.tv_lineage.specs.Reaching.{unmet}
use Rattle.tv_lineage.specs.Tables.{AreClosed, AreTouched}
use Rattle.tv_lineage.specs.Views.{kept_of}
use Rattle.tv_lineage.proofs.table.of_element.Given as goal

abbrev pub invariant-loop-added : goal.invariant-loop-added
invariant-loop-added l = record {
  sound : AreTouched (kept_of l.entries) l.port l.place l.made.items;
  closed : l.added ≡ false → AreClosed (get job_name_cmp l.numbers) (kept_of l.entries).groups l.port l.place l.made.items (length l.entries);
  size : length l.made.items ≡ length l.entries;
}

abbrev pub decreases-loop-added : goal.decreases-loop-added
decreases-loop-added l = unmet l.made.items + (if l.added then 1 else 0)
