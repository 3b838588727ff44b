use Rattle.tv_framing.proofs.keeping.LawLemmas.{taking-tells_nothing}
use Rattle.tv_framing.proofs.laws.keeping.taking.Goals as goal

pub returns : goal.returns
returns c = taking-tells_nothing
