use Rattle.tv_matching.specs.Matched.{replaced}
use Rattle.tv_match.specs.Entries.{kepts}
use Rattle.tv_match.proofs.Putting.{PutsBrief}
use Rattle.tv_match.proofs.joins.push_crossed.Given as goal

abbrev pub invariant-loop-i : goal.invariant-loop-i
invariant-loop-i l = PutsBrief l.number (λ x. replaced (kepts l.ys) x.place x.kind) l.xs l.i l.initial.out l.out
