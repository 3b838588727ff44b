use Rattle.std.specs.Prelude.{◌≡◌, ◌≤◌, count_by, take}
use Rattle.tv_run.proofs.CountedJobs.{over_in}
use Rattle.tv_run.proofs.run.OpenRun.count_settled.Given as goal

abbrev pub invariant-loop-job : goal.invariant-loop-job
invariant-loop-job l = (l.count ≡ count_by (over_in l.self) (take l.job l.self.jobs.items)) × (l.count ≤ l.job)
