use Rattle.tv_model.proofs.InstancesComputed.{binds-what_jobs_give, counts-what_is_whole, ends-after_its_jobs, tells-in_order}
use Rattle.tv_model.proofs.instance.rows.worked.Goals as goal

pub returns : goal.returns
returns c = record { binds = binds-what_jobs_give; counts = counts-what_is_whole; ends = ends-after_its_jobs; tells = tells-in_order }
