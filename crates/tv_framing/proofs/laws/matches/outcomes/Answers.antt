use Rattle.tv_framing.proofs.matches.LawLemmas.{outcomes-are_known, passed_faults-stand}
use Rattle.tv_framing.proofs.laws.matches.outcomes.Goals as goal

pub returns : goal.returns
returns c = record { known = outcomes-are_known; faults = passed_faults-stand }
