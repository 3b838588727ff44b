use Rattle.std.proofs.Common.{◌≡◌, true, length}
use Rattle.tv_idle.specs.Kept.{are_below, is_gone, trimmed}
use Rattle.tv_idle.proofs.queues.trim.Given as goal

abbrev pub invariant-loop-queue : goal.invariant-loop-queue
invariant-loop-queue l = record {
  below : are_below (length l.gone) l.queue.jobs ≡ true;
  left : trimmed (is_gone l.gone) l.queue.jobs ≡ trimmed (is_gone l.gone) l.initial.queue.jobs;
  levels : l.queue.levels ≡ l.initial.queue.levels;
  room : l.queue.room ≡ l.initial.queue.room;
}

abbrev pub decreases-loop-queue : goal.decreases-loop-queue
decreases-loop-queue l = length l.queue.jobs
