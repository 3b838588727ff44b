use Rattle.std.proofs.Common.{◌≡◌, Some}
use Rattle.tv_check.specs.Turned.{with_items, wire_of}
use Rattle.tv_check.proofs.Turning.{so_far}
use Rattle.tv_check.proofs.wires.push_links.Given as goal

abbrev pub invariant-loop-number : goal.invariant-loop-number
invariant-loop-number l =
    l.rows ≡ with_items l.initial.rows (so_far (λ x. wire_of l.to.step (l.to.number, l.to.port.now) (Some x.0, x.1)) l.links l.number)
