use Rattle.tv_dispatch.specs.Plans.{turns_of}
use Rattle.tv_dispatch.proofs.Folded.{asked-turns, left_start, bounced-none}
use Rattle.tv_dispatch.proofs.laws.asks_in_turn.Goals as goal

pub returns : goal.returns
returns c = record { asks = λ p rs. asked-turns p (turns_of p) (left_start p) rs; bounced = bounced-none }
