use Rattle.std.proofs.Common.{◌≡◌, map, take}
use Rattle.tv_check.specs.Turned.{with_items}
use Rattle.tv_check.proofs.wires.push_waits.Given as goal

abbrev pub invariant-loop-earlier : goal.invariant-loop-earlier
invariant-loop-earlier l = l.rows ≡ with_items l.initial.rows (map (λ a. (a, l.step)) (take l.earlier-index l.after))
