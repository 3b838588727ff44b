use Rattle.tv_framing.proofs.matches.LawLemmas.{nothing-settles, waiting_faults-can_settle, waiting_lists-can_settle}
use Rattle.tv_framing.proofs.laws.matches.settlements.Goals as goal

pub returns : goal.returns
returns c = record { lists = waiting_lists-can_settle; faults = waiting_faults-can_settle; nothing = nothing-settles }
