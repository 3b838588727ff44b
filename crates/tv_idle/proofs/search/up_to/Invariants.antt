use Rattle.std.proofs.Common.{◌≡◌, ◌≤◌, ◌<◌, ◌-◌, length, false, slice_index}
use Rattle.std.specs.Prelude.{ℕ}
use Rattle.tv_idle.specs.Orders.{place_at}
use Rattle.tv_idle.specs.Sought.{stands_after}
use Rattle.tv_idle.proofs.search.up_to.Given as goal

abbrev pub invariant-loop-low : goal.invariant-loop-low
invariant-loop-low l = record {
  inside : l.high ≤ length l.queue.items;
  ordered : l.low ≤ l.high;
  before : (k : ℕ) → k < l.low → stands_after l.place (place_at l.table.jobs (slice_index l.queue.items k)) ≡ false;
}

abbrev pub decreases-loop-low : goal.decreases-loop-low
decreases-loop-low l = l.high - l.low
