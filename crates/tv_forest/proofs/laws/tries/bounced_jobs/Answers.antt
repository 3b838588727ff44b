use Rattle.tv_forest.proofs.tries.Jobs.{bounced-by, bounced-none}
use Rattle.tv_forest.proofs.laws.tries.bounced_jobs.Goals as goal

pub returns : goal.returns
returns c = record { none = bounced-none; inputs = bounced-by }
