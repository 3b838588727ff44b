use Rattle.tv_framing.proofs.starts.Numbers.{inputs-are_in_order, numbers-start_alike}
use Rattle.tv_framing.proofs.laws.starts.numbers.Goals as goal

pub returns : goal.returns
returns c = record { ports = numbers-start_alike; inputs = inputs-are_in_order }
