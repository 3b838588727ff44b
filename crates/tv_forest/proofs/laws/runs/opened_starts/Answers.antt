use Rattle.tv_forest.proofs.runs.Opened.{opened-fit, opened-starts}
use Rattle.tv_forest.proofs.laws.runs.opened_starts.Goals as goal

pub returns : goal.returns
returns c = record { starts = opened-starts; fit = opened-fit }
