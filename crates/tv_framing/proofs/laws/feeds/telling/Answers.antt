use Rattle.tv_framing.proofs.feeds.Seen.{events-are_seen}
use Rattle.tv_framing.proofs.feeds.Told.{told-goes_on}
use Rattle.tv_framing.proofs.feeds.Untouched.{untouched-stay_told}
use Rattle.tv_framing.proofs.laws.feeds.telling.Goals as goal

pub returns : goal.returns
returns c = record { touched = told-goes_on; untouched = untouched-stay_told; seen = events-are_seen }
