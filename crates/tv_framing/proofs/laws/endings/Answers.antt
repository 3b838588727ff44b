use Rattle.tv_framing.proofs.LawLemmas.{ended-is_told, ending-is_told, whole-is_told}
use Rattle.tv_framing.proofs.laws.endings.Goals as goal

pub returns : goal.returns
returns c = record { whole = whole-is_told; ended = ended-is_told; all = ending-is_told }
