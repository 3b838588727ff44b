use Rattle.std.proofs.Common.{◌≡◌, [], ◌∷◌}
use Rattle.tv_match.proofs.Putting.{Puts}
use Rattle.tv_match.proofs.joins.group_all.Given as goal

abbrev pub invariant-loop-i : goal.invariant-loop-i
invariant-loop-i l = Puts l.number (λ x. x ∷ []) l.xs l.i l.initial.out.items l.out.items × (l.out.depth ≡ l.initial.out.depth)
