use Rattle.std.proofs.Common.{◌≡◌, map, drop}
use Rattle.tv_check.specs.Depthwise.{same_ports}
use Rattle.tv_check.proofs.nested.same_inputs.Given as goal

-- what is left decides
abbrev pub invariant-loop-position : goal.invariant-loop-position
invariant-loop-position l =
    same_ports (map (λ i. (i.0, i.1.depth)) l.inputs) l.given ≡ same_ports (drop l.position (map (λ i. (i.0, i.1.depth)) l.inputs)) (drop l.position l.given)
