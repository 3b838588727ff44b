use Rattle.std.proofs.Common.{◌≡◌, [], length, replicate}
use Rattle.tv_check.specs.Turned.{with_items, waits_of}
use Rattle.tv_check.proofs.Turning.{so_far}
use Rattle.tv_check.proofs.wires.dependents_of.Given as goal

abbrev pub invariant-loop-step : goal.invariant-loop-step
invariant-loop-step l = l.rows ≡ with_items (replicate (length l.after) []) (so_far waits_of l.after l.step)
