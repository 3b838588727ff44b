use Rattle.std.proofs.Common.{◌≡◌, ◌-◌, true, length}
use Rattle.std.specs.Prelude.{IsPermutation}
use Rattle.tv_idle.specs.Orders.{are_within, is_before}
use Rattle.tv_idle.proofs.Heaping.{IsSinking}
use Rattle.tv_idle.proofs.heap.sink.Given as goal

abbrev pub invariant-loop-at : goal.invariant-loop-at
invariant-loop-at l = record {
  sinking : IsSinking (is_before l.table.jobs) l.jobs l.at;
  same : IsPermutation l.initial.jobs l.jobs;
  within : are_within l.table.jobs l.jobs ≡ true;
  many : length l.jobs ≡ length l.initial.jobs;
}

abbrev pub decreases-loop-at : goal.decreases-loop-at
decreases-loop-at l = length l.jobs - l.at
