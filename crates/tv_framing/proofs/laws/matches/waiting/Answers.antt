use Rattle.tv_framing.proofs.matches.LawLemmas.{all-wait_at_first, taking-leaves_waiting, waiting-goes_on, waiting-in_any_order}
use Rattle.tv_framing.proofs.laws.matches.waiting.Goals as goal

pub returns : goal.returns
returns c = record { start = all-wait_at_first; goes_on = waiting-goes_on; taking = taking-leaves_waiting; order = waiting-in_any_order }
