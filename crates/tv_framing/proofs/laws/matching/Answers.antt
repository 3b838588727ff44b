use Rattle.tv_framing.proofs.LawLemmas.{matched-is_known}
use Rattle.tv_framing.proofs.laws.matching.Goals as goal

pub returns : goal.returns
returns c = matched-is_known
