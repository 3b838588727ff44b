use Rattle.std.proofs.Common.{map, take, Some}
use Rattle.tv_traces.specs.Tables.{AreDone}
use Rattle.tv_traces.specs.Sights.{done_by, job_view}
use Rattle.tv_traces.proofs.settled.jobs_of.Given as goal

abbrev pub invariant-loop-job : goal.invariant-loop-job
invariant-loop-job l = AreDone (map job_view (take l.job-index l.jobs)) (done_by (Some l.places))
