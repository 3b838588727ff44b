use Rattle.tv_match.proofs.LawLemmas.{added-is_behind}
use Rattle.tv_match.proofs.laws.what_a_telling_adds.Goals as goal

pub returns : goal.returns
returns c = added-is_behind
