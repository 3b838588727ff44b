use Rattle.tv_forest.proofs.stands.States.{states-by_seats}
use Rattle.tv_forest.proofs.laws.stands.states_by_seats.Goals as goal

pub returns : goal.returns
returns c = states-by_seats
