use Rattle.std.proofs.Common.{◌≡◌, ℕ, ◌<◌, false}
use Rattle.tv_naming.specs.graphs.Graphs.{is_on_cycle}
use Rattle.tv_naming.proofs.graphs.orders.first_on_cycle.Given as goal

abbrev pub invariant-loop-vertex : goal.invariant-loop-vertex
invariant-loop-vertex l = (u : ℕ) → u < l.vertex → is_on_cycle l.graph u ≡ false
