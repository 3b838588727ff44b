use Rattle.std.proofs.Common.{◌≡◌, map, take}
use Rattle.tv_traces.specs.Sights.{job_view}
use Rattle.tv_run.specs.Tracing.{settled_spots}
use Rattle.tv_run.proofs.tracing.settled_jobs.Given as goal

abbrev pub invariant-loop-number : goal.invariant-loop-number
invariant-loop-number l = map job_view l.jobs.items ≡ settled_spots (take l.number l.open.seats.seats)
