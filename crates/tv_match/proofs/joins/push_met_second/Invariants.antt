use Rattle.tv_matching.specs.Stores.{met_with}
use Rattle.tv_match.specs.Entries.{kept_entry, entry_at}
use Rattle.tv_match.specs.Brief.{brief}
use Rattle.tv_match.proofs.Meeting.{Meets}
use Rattle.tv_match.proofs.joins.push_met_second.Given as goal

abbrev pub invariant-loop-found : goal.invariant-loop-found
invariant-loop-found l = Meets l.number (λ x. brief (met_with x (kept_entry (entry_at l.ys l.at)))) l.key l.xs l.before l.initial.out l.out

abbrev pub decreases-loop-found : goal.decreases-loop-found
decreases-loop-found l = l.before
