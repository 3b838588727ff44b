use Rattle.std.proofs.Common.{◌≡◌, ◌+◌, drop, map}
use Rattle.tv_check.specs.Ports.{leaf_number}
use Rattle.tv_check.proofs.leaves.leaf_number.Given as goal

abbrev pub invariant-loop-number : goal.invariant-loop-number
invariant-loop-number l = leaf_number l.name (map (λ n. n.now) l.leaves) ≡ l.number + leaf_number l.name (map (λ n. n.now) (drop l.number l.leaves))
