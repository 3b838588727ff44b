use Rattle.tv_naming.proofs.Cycles.{no_cycle-all_come, all_come-no_cycle}
use Rattle.tv_naming.proofs.graphs.laws.all_come.Goals as goal

pub returns : goal.returns
returns c = record { without_cycle = no_cycle-all_come; no_cycle = all_come-no_cycle }
