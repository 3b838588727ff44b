use Rattle.tv_framing.proofs.instances.LawLemmas.{ended-is_by_events, events-rise, legal_events-fit, whole-is_by_events}
use Rattle.tv_framing.proofs.laws.instances.events_tell.Goals as goal

pub returns : goal.returns
returns c = record { rise = events-rise; fit = legal_events-fit; whole = whole-is_by_events; ended = ended-is_by_events }
