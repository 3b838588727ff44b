use Rattle.std.proofs.Common.{map, take}
use Rattle.tv_matching.specs.Stores.{met_with, latest_by}
use Rattle.tv_match.specs.Entries.{kepts}
use Rattle.tv_match.proofs.Putting.{PutsBrief}
use Rattle.tv_match.proofs.joins.push_all_met_below.Given as goal

abbrev pub invariant-loop-i : goal.invariant-loop-i
invariant-loop-i l = PutsBrief l.number (λ x. map (met_with x) (latest_by (take l.ys.depth) x.place (kepts l.ys.items))) l.xs l.i l.initial.out l.out
