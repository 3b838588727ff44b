use Rattle.tv_matching.proofs.LawLemmas.{matches-once, new-is_once}
use Rattle.tv_matching.proofs.laws.matches_once.Goals as goal

pub returns : goal.returns
returns c = record { once = matches-once; new = new-is_once }
