use Rattle.tv_framing.proofs.turns.Changes.{none-first, still, with-one-more, without-one}
use Rattle.tv_framing.proofs.laws.turns.idle_changes.Goals as goal

pub returns : goal.returns
returns c = record { first = none-first; more = with-one-more; fewer = without-one; other = still }
