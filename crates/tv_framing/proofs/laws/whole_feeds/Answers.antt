use Rattle.tv_framing.proofs.LawLemmas.{feeds-are_known_whole, wrapping-is_known}
use Rattle.tv_framing.proofs.laws.whole_feeds.Goals as goal

pub returns : goal.returns
returns c = record { feeds = feeds-are_known_whole; wrapping = wrapping-is_known }
