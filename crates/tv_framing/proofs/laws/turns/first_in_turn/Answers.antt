use Rattle.tv_framing.proofs.turns.Orders.{order-of-steps}
use Rattle.tv_framing.proofs.turns.Frames.{first-is-ready}
use Rattle.tv_framing.proofs.laws.turns.first_in_turn.Goals as goal

pub returns : goal.returns
returns c = record { first = first-is-ready; order = order-of-steps }
