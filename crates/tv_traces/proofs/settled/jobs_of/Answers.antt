use Rattle.tv_traces.proofs.Sights.{done-more}
use Rattle.tv_traces.proofs.settled.jobs_of.Goals as goal

pub loop-job-preserved : goal.loop-job-preserved
loop-job-preserved c = done-more c.loop-job.places c.insert.new.self c.in_ok-key.key c.args.jobs.now c.loop-job.job-index c.job-item.result c.loop-job-test.true c.job-item.is c.as_slice.result.now c.in_ok-key.ensures c.as_slice.ensures c.in_ok-insert.ensures.updates c.loop-job.invariant
