use Rattle.tv_forest.proofs.stands.Next.{next-by_seat}
use Rattle.tv_forest.proofs.stands.Offers.{bounces-by_seat, going-by_seat}
use Rattle.tv_forest.proofs.laws.stands.going_by_seat.Goals as goal

pub returns : goal.returns
returns c = record { going = going-by_seat; next = next-by_seat; bounces = bounces-by_seat }
