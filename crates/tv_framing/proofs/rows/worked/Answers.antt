use Rattle.tv_framing.proofs.Computed.{makes-jobs_known, shows-parts, tells-ports}
use Rattle.tv_framing.proofs.rows.worked.Goals as goal

pub returns : goal.returns
returns c = record { parts = shows-parts; ports = tells-ports; jobs = makes-jobs_known }
