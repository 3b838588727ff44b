use Rattle.std.proofs.Common.{◌-◌}
use Rattle.tv_match.proofs.Linking.{Searches}
use Rattle.tv_match.proofs.found.latest.Given as goal

abbrev pub invariant-loop-at : goal.invariant-loop-at
invariant-loop-at l = Searches l.links l.bag l.place l.before l.at l.level l.latest

abbrev pub decreases-loop-at : goal.decreases-loop-at
decreases-loop-at l = l.before - l.at
