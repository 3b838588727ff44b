use Rattle.tv_spread.proofs.LawLemmas.{wholes-leaves, wirings-wired}
use Rattle.tv_spread.proofs.laws.lookups.Goals as goal

pub returns : goal.returns
returns c = record { whole = wholes-leaves; wired = wirings-wired }
