use Rattle.tv_matching.specs.Matched.{replaced_below}
use Rattle.tv_match.specs.Entries.{kepts}
use Rattle.tv_match.proofs.Putting.{PutsBrief}
use Rattle.tv_match.proofs.joins.push_below_jobs.Given as goal

abbrev pub invariant-loop-i : goal.invariant-loop-i
invariant-loop-i l = PutsBrief l.number (λ x. replaced_below (kepts l.ys) x.place x.kind) l.es l.i l.initial.out l.out
