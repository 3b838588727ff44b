use Rattle.std.proofs.Common.{◌≡◌, take, length}
use Rattle.tv_match.proofs.chains.keep_first.Given as goal

abbrev pub invariant-loop-chains : goal.invariant-loop-chains
invariant-loop-chains l = (take l.count l.chains.of ≡ take l.count l.initial.chains.of) × (l.chains.count ≡ l.initial.chains.count)

abbrev pub decreases-loop-chains : goal.decreases-loop-chains
decreases-loop-chains l = length l.chains.of
