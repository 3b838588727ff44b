use Rattle.std.proofs.Common.{length, ◌-◌, ◌≡◌, true, false, take}
use Rattle.std.specs.Prelude.{slice_index_or}
use Rattle.std.specs.List.{list_all}
use Rattle.tv_naming.proofs.graphs.untaken.next_untaken.Given as goal

abbrev pub invariant-loop-next : goal.invariant-loop-next
invariant-loop-next l = list_all (λ u. slice_index_or l.taken u false) (take l.next l.before) ≡ true

abbrev pub decreases-loop-next : goal.decreases-loop-next
decreases-loop-next l = length l.before - l.next
