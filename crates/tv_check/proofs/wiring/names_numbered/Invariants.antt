use Rattle.std.proofs.Common.{◌≡◌, map, take}
use Rattle.tv_naming.specs.Numbers.{position}
use Rattle.tv_check.proofs.wiring.names_numbered.Given as goal

abbrev pub invariant-loop-name : goal.invariant-loop-name
invariant-loop-name l = l.numbers.items ≡ map (λ n. position n l.steps) (take l.name-index l.name-items)
