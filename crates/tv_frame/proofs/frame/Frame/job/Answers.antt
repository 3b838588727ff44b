use Rattle.tv_frame.proofs.JobLemmas.{job-holds, job-is}
use Rattle.tv_frame.proofs.frame.Frame.job.Goals as goal

pub returns-clause-error : goal.returns-clause-error
returns-clause-error c = λ plan pool flows v k. job-holds flows plan pool c.args.self.now v k c.args.number _ _ c.job-step.ensures.job _ c.job-step.ensures.faulty

pub returns-clause-stands : goal.returns-clause-stands
returns-clause-stands c = λ plan pool flows v k. job-is flows plan pool c.args.self.now v k c.args.number _ _ c.job-step.ensures.job
