use Rattle.std.proofs.Common.{◌≡◌, ◌≤◌, length, sum_by, take}
use Rattle.tv_intake.specs.Sorting.{jobs_among}
use Rattle.tv_intake.specs.Intaken.{brought_in}
use Rattle.tv_intake.proofs.intakes.Intakes.make_room.Given as goal

abbrev pub invariant-loop-step : goal.invariant-loop-step
invariant-loop-step l = record {
  all_is : l.all ≡ sum_by (λ s. length (brought_in l.self.matchers.items s)) (take l.step-index l.steps);
  jobs_are : l.jobs ≡ sum_by (λ s. jobs_among (brought_in l.self.matchers.items s)) (take l.step-index l.steps);
  fewer : l.jobs ≤ l.all;
}
