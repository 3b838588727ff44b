use Rattle.tv_forest.proofs.firsts.Firsts.{first-by_seats}
use Rattle.tv_forest.proofs.firsts.Histories.{first-of_all_jobs}
use Rattle.tv_forest.proofs.firsts.Quiet.{going-by_next}
use Rattle.tv_forest.proofs.laws.firsts.first_within.Goals as goal

pub returns : goal.returns
returns c = record { seats = first-by_seats; all = first-of_all_jobs; next = going-by_next }
