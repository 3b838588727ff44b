use Rattle.tv_framing.proofs.faults.LawLemmas.{start-is_true, truth-goes_on, truth-stays}
use Rattle.tv_framing.proofs.laws.faults.truth.Goals as goal

pub returns : goal.returns
returns c = record { start = start-is_true; event = truth-goes_on; stays = truth-stays }
