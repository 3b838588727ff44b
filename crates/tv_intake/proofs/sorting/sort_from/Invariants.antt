use Rattle.std.proofs.Common.{◌≡◌, ◌++◌, ◌+◌, ◌-◌, ◌≤◌, drop, length, vec_capacity, vec_len}
use Rattle.tv_match.specs.Ahead.{in_order_ahead}
use Rattle.tv_intake.specs.Sorting.{found_jobs, found_others}
use Rattle.tv_intake.proofs.sorting.sort_from.Given as goal

abbrev pub invariant-loop-at : goal.invariant-loop-at
invariant-loop-at l = record {
  end_is : l.at-end ≡ length (in_order_ahead l.matcher);
  from_on : l.from ≤ l.at;
  jobs :
      l.jobs.items ++ found_jobs l.step l.at (drop l.at (in_order_ahead l.matcher))
      ≡ l.fn.jobs.items ++ found_jobs l.step l.from (drop l.from (in_order_ahead l.matcher));
  waiting :
      l.waiting.items ++ found_others l.step l.at (drop l.at (in_order_ahead l.matcher))
      ≡ l.fn.waiting.items ++ found_others l.step l.from (drop l.from (in_order_ahead l.matcher));
  jobs_room : vec_len l.jobs + (l.at-end - l.at) ≤ vec_capacity l.jobs;
  waiting_room : vec_len l.waiting + (l.at-end - l.at) ≤ vec_capacity l.waiting;
  jobs_len : vec_len l.jobs + (l.at-end - l.at) ≤ vec_len l.fn.jobs + (l.at-end - l.from);
  waiting_len : vec_len l.waiting + (l.at-end - l.at) ≤ vec_len l.fn.waiting + (l.at-end - l.from);
  jobs_capacity : vec_capacity l.fn.jobs ≤ vec_capacity l.jobs;
  waiting_capacity : vec_capacity l.fn.waiting ≤ vec_capacity l.waiting;
}
