use Rattle.std.proofs.Common.{◌≡◌, ◌<◌, false, slice_index}
use Rattle.std.specs.Prelude.{ℕ}
use Rattle.tv_idle.specs.Sought.{is_sought_at}
use Rattle.tv_idle.proofs.search.first_queued.Given as goal

abbrev pub invariant-loop-position : goal.invariant-loop-position
invariant-loop-position l = (k : ℕ) → k < l.position → is_sought_at l.place l.gone l.table.jobs (slice_index l.queue.items k) ≡ false
