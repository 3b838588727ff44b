use Rattle.tv_framing.proofs.feeds.Computed.{shows-first_event, shows-last_event}
use Rattle.tv_framing.proofs.rows.feeds.worked.Goals as goal

pub returns : goal.returns
returns c = record { first = shows-first_event; last = shows-last_event }
