use Rattle.tv_matching.proofs.LawLemmas.{matches-what_was_told}
use Rattle.tv_matching.proofs.laws.matches_what_was_told.Goals as goal

pub returns : goal.returns
returns c = matches-what_was_told
