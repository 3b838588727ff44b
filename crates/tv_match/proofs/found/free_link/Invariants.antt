use Rattle.std.proofs.Common.{◌*◌, ◌-◌}
use Rattle.tv_match.proofs.Linking.{Seeks}
use Rattle.tv_match.proofs.found.free_link.Given as goal

abbrev pub invariant-loop-link : goal.invariant-loop-link
invariant-loop-link l = Seeks l.links l.count l.place l.link l.level

abbrev pub decreases-loop-link : goal.decreases-loop-link
decreases-loop-link l = 4 * l.count - l.link
