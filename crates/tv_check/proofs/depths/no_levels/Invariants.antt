use Rattle.std.proofs.Common.{◌≡◌, replicate, None}
use Rattle.tv_check.proofs.depths.no_levels.Given as goal

abbrev pub invariant-loop : goal.invariant-loop
invariant-loop l = l.levels.items ≡ replicate l.counter None
