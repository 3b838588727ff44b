use Rattle.tv_matching.specs.Items.{if_so}
use Rattle.tv_matching.specs.Stores.{is_job}
use Rattle.tv_match.proofs.Putting.{Puts}
use Rattle.tv_match.proofs.joins.push_jobs.Given as goal

abbrev pub invariant-loop-i : goal.invariant-loop-i
invariant-loop-i l = Puts l.number (λ x. if_so (is_job x.kind) x) l.xs l.i l.initial.out l.out
