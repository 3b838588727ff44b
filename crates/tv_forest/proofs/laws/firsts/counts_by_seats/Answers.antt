use Rattle.tv_forest.proofs.firsts.Counts.{are-counted, counts-by_seats}
use Rattle.tv_forest.proofs.laws.firsts.counts_by_seats.Goals as goal

pub returns : goal.returns
returns c = record { counts = counts-by_seats; counted = are-counted }
