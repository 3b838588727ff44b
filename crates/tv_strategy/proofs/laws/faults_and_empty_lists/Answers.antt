use Rattle.tv_strategy.proofs.Lists.{walk-fault, cross-keeps_fault, cross-keeps_empty_list, dot-keeps_first_fault, dot-keeps_later_fault}
use Rattle.tv_strategy.proofs.laws.faults_and_empty_lists.Goals as goal

pub returns : goal.returns
returns c = record { walk = walk-fault; cross = cross-keeps_fault; empty = cross-keeps_empty_list; dot_first = dot-keeps_first_fault; dot_later = dot-keeps_later_fault }
