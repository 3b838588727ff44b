use Rattle.tv_history.proofs.Computed.{ends_after_its_steps, ends_instance_after_its_jobs, opens_in_job_order}
use Rattle.tv_history.proofs.rows.instances.Goals as goal

pub returns : goal.returns
returns c = record { opened = opens_in_job_order; inside = ends_instance_after_its_jobs; steps = ends_after_its_steps }
