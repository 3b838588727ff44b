use Rattle.tv_framing.proofs.keeping.LawLemmas.{results-may_come, settlements-may_come}
use Rattle.tv_framing.proofs.laws.keeping.coming.Goals as goal

pub returns : goal.returns
returns c = record { results = results-may_come; settlements = settlements-may_come }
