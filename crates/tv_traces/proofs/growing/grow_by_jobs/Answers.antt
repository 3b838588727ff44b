use Rattle.std.proofs.Common.{◌++◌, map, take}
use Rattle.std.specs.BTreeMap.{get}
use Rattle.tv_value.specs.Orders.{place_cmp}
use Rattle.tv_traces.specs.Sights.{job_view}
use Rattle.tv_traces.proofs.GrowingLemmas.{all-around, next-around}
use Rattle.tv_traces.proofs.growing.grow_by_jobs.Goals as goal

pub loop-job-preserved : goal.loop-job-preserved
loop-job-preserved c = λ js h.
    next-around job_view js c.args.jobs.now c.loop-job.job-index c.job-item.result c.loop-job-test.true c.job-item.is c.as_slice.result.now c.as_slice.ensures (get place_cmp c.grow_around.new.grown)
    (c.in_ok-grow_around.ensures (js ++ map job_view (take c.loop-job.job-index c.args.jobs.now)) (c.loop-job.invariant js h))

pub returns : goal.returns
returns c = λ js h. all-around job_view js c.args.jobs.now c.loop-job.job-index c.loop-job-test.false (get place_cmp c.loop-job.grown) (c.loop-job.invariant js h)
