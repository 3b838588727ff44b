use Rattle.tv_matching.specs.Stores.{met_with}
use Rattle.tv_match.specs.Entries.{kept_entry, entry_at}
use Rattle.tv_match.specs.Brief.{brief}
use Rattle.tv_match.proofs.Meeting.{Meets}
use Rattle.tv_match.proofs.joins.push_met_first.Given as goal

abbrev pub invariant-loop-found : goal.invariant-loop-found
invariant-loop-found l = Meets l.number (λ y. brief (met_with (kept_entry (entry_at l.xs l.at)) y)) (entry_at l.xs l.at).place l.ys l.before l.initial.out l.out

abbrev pub decreases-loop-found : goal.decreases-loop-found
decreases-loop-found l = l.before
