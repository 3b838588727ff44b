use Rattle.tv_check.proofs.AllRanked.{all-ranked-formed, ranked-acyclic-formed}
use Rattle.tv_check.proofs.Inside.{names-inside}
use Rattle.tv_check.proofs.laws.ranks.Goals as goal

pub returns : goal.returns
returns c = record { all = all-ranked-formed; none = ranked-acyclic-formed; inside = names-inside }
