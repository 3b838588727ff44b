use Rattle.tv_match.proofs.LawLemmas.{sound-is_matching}
use Rattle.tv_match.proofs.laws.matchers.Goals as goal

pub returns : goal.returns
returns c = sound-is_matching
