use Rattle.tv_forest.proofs.stands.Order.{order-by_seats}
use Rattle.tv_forest.proofs.laws.stands.order_by_seats.Goals as goal

pub returns : goal.returns
returns c = order-by_seats
