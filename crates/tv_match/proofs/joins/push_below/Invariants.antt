use Rattle.std.proofs.Common.{[], ◌∷◌}
use Rattle.tv_matching.specs.Items.{if_so}
use Rattle.tv_matching.specs.Matched.{below}
use Rattle.tv_match.proofs.Putting.{PutsBrief}
use Rattle.tv_match.proofs.joins.push_below.Given as goal

abbrev pub invariant-loop-i : goal.invariant-loop-i
invariant-loop-i l = PutsBrief l.number (λ y. below l.at (if_so l.faulty tt) y ∷ []) l.ys l.i l.initial.out l.out
