use Rattle.tv_forest.proofs.seats.Ends.{ended_stays}
use Rattle.tv_forest.proofs.seats.Runs.{elsewhere-stays}
use Rattle.tv_forest.proofs.laws.seats.seats_stay.Goals as goal

pub returns : goal.returns
returns c = record { elsewhere = elsewhere-stays; ended = ended_stays }
