use Rattle.tv_framing.proofs.starts.LawLemmas.{start-can_be_told, start-is_told}
use Rattle.tv_framing.proofs.laws.starts.starts.Goals as goal

pub returns : goal.returns
returns c = record { told = start-is_told; can_be = start-can_be_told }
