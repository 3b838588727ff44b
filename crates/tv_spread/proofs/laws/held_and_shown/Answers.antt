use Rattle.tv_spread.proofs.LawLemmas.{all-told, flags-told, ready-stays}
use Rattle.tv_spread.proofs.laws.held_and_shown.Goals as goal

pub returns : goal.returns
returns c = record { told = all-told; flags = flags-told; ready = ready-stays }
