use Rattle.tv_forest.proofs.stands.Told.{counts-by_seats, running-by_seats}
use Rattle.tv_forest.proofs.laws.stands.counts_by_seats.Goals as goal

pub returns : goal.returns
returns c = record { counts = counts-by_seats; running = running-by_seats }
