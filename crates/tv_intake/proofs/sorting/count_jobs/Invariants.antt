use Rattle.std.proofs.Common.{◌≡◌, ◌+◌, ◌-◌, ◌≤◌, drop, length}
use Rattle.tv_match.specs.Ahead.{in_order_ahead}
use Rattle.tv_intake.specs.Sorting.{jobs_among}
use Rattle.tv_intake.proofs.sorting.count_jobs.Given as goal

abbrev pub invariant-loop-at : goal.invariant-loop-at
invariant-loop-at l = record {
  end_is : l.at-end ≡ length (in_order_ahead l.matcher);
  from_on : l.from ≤ l.at;
  counted : l.count + jobs_among (drop l.at (in_order_ahead l.matcher)) ≡ jobs_among (drop l.from (in_order_ahead l.matcher));
  within : l.count + (l.at-end - l.at) ≤ l.at-end - l.from;
}
