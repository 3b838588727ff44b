use Rattle.tv_binding.proofs.Binding.{jobs-bind, outputs-delivered}
use Rattle.tv_binding.proofs.laws.what_jobs_bind.Goals as goal

pub returns : goal.returns
returns c = record { jobs = jobs-bind; outputs = outputs-delivered }
