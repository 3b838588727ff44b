use Rattle.std.proofs.Common.{◌≡◌, replicate, None}
use Rattle.tv_check.proofs.depths.none_measured.Given as goal

abbrev pub invariant-loop : goal.invariant-loop
invariant-loop l = l.measured.items ≡ replicate l.counter None
