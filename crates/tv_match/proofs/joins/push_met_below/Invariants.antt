use Rattle.std.proofs.Common.{take}
use Rattle.tv_matching.specs.Stores.{met_with}
use Rattle.tv_match.specs.Entries.{kept_entry, entry_at}
use Rattle.tv_match.specs.Brief.{brief}
use Rattle.tv_match.proofs.Meeting.{MeetsFrom, steps_left}
use Rattle.tv_match.proofs.joins.push_met_below.Given as goal

abbrev pub invariant-loop-next : goal.invariant-loop-next
invariant-loop-next l = MeetsFrom l.number (λ y. brief (met_with (kept_entry (entry_at l.xs l.at)) y)) (take l.ys.depth) (entry_at l.xs l.at).place l.ys.items l.next l.initial.out l.out

abbrev pub decreases-loop-next : goal.decreases-loop-next
decreases-loop-next l = steps_left l.next
