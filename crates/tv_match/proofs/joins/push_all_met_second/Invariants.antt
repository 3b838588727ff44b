use Rattle.std.proofs.Common.{map}
use Rattle.tv_matching.specs.Stores.{key_of, met_with, latest_at}
use Rattle.tv_match.specs.Entries.{kepts}
use Rattle.tv_match.proofs.Putting.{PutsBrief}
use Rattle.tv_match.proofs.joins.push_all_met_second.Given as goal

abbrev pub invariant-loop-i : goal.invariant-loop-i
invariant-loop-i l = PutsBrief l.number (λ y. map (λ x. met_with x y) (latest_at (key_of l.depth y.place) (kepts l.xs))) l.ys l.i l.initial.out l.out
