use Rattle.tv_framing.proofs.LawLemmas.{parts-are_below}
use Rattle.tv_framing.proofs.laws.parts.Goals as goal

pub returns : goal.returns
returns c = parts-are_below
