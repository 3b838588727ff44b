use Rattle.tv_forest.proofs.seats.Runs.{sit-at_start, sit-where_opened}
use Rattle.tv_forest.proofs.laws.seats.seats_start.Goals as goal

pub returns : goal.returns
returns c = record { main = sit-at_start; nested = sit-where_opened }
