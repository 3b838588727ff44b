use Rattle.std.proofs.Common.{◌≡◌, [], length, replicate}
use Rattle.tv_check.specs.Turned.{with_items, step_wires}
use Rattle.tv_check.proofs.Turning.{so_far}
use Rattle.tv_check.proofs.wires.wires_of.Given as goal

abbrev pub invariant-loop-step : goal.invariant-loop-step
invariant-loop-step l = l.rows ≡ with_items (replicate (length l.ports) []) (so_far step_wires l.ports l.step)
