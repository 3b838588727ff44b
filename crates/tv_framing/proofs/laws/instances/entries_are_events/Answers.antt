use Rattle.tv_framing.proofs.instances.History.{entries-are_events, others-stay_settled, recalled-is_none}
use Rattle.tv_framing.proofs.laws.instances.entries_are_events.Goals as goal

pub returns : goal.returns
returns c = record { events = entries-are_events; recalled = recalled-is_none; others = others-stay_settled }
