use Rattle.std.proofs.Common.{◌≡◌}
use Rattle.tv_check.specs.Turned.{with_items, port_wires}
use Rattle.tv_check.proofs.Turning.{so_far}
use Rattle.tv_check.proofs.wires.push_ports.Given as goal

abbrev pub invariant-loop-number : goal.invariant-loop-number
invariant-loop-number l = l.rows ≡ with_items l.initial.rows (so_far (port_wires l.step) l.ports l.number)
