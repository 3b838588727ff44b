use Rattle.std.proofs.Common.{◌≡◌, ◌+◌, ◌-◌, ◌≤◌, not, drop, length}
use Rattle.std.specs.Prelude.{count_by}
use Rattle.tv_match.specs.Ahead.{in_order_ahead}
use Rattle.tv_intake.specs.Sorting.{faulty_ahead, job_places}
use Rattle.tv_intake.proofs.sorting.count_each.Given as goal

abbrev pub invariant-loop-at : goal.invariant-loop-at
invariant-loop-at l = record {
  end_is : l.at-end ≡ length (in_order_ahead l.matcher);
  from_on : l.from ≤ l.at;
  good :
      l.good + count_by (λ q. not (faulty_ahead l.matcher q)) (job_places (drop l.at (in_order_ahead l.matcher)))
      ≡ count_by (λ q. not (faulty_ahead l.matcher q)) (job_places (drop l.from (in_order_ahead l.matcher)));
  faulty :
      l.faulty + count_by (faulty_ahead l.matcher) (job_places (drop l.at (in_order_ahead l.matcher)))
      ≡ count_by (faulty_ahead l.matcher) (job_places (drop l.from (in_order_ahead l.matcher)));
  good_within : l.good + (l.at-end - l.at) ≤ l.at-end - l.from;
  faulty_within : l.faulty + (l.at-end - l.at) ≤ l.at-end - l.from;
}
