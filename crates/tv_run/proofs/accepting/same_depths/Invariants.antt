use Rattle.std.proofs.Common.{◌≡◌, drop, map}
use Rattle.tv_value.specs.Orders.{same_name}
use Rattle.tv_run.proofs.accepting.same_depths.Given as goal

abbrev pub invariant-loop-index : goal.invariant-loop-index
invariant-loop-index l =
    same_name (map (λ o. o.1) l.first) (map (λ o. o.1) l.second)
    ≡ same_name (map (λ o. o.1) (drop l.index l.first)) (map (λ o. o.1) (drop l.index l.second))
