use Rattle.std.proofs.Common.{◌≡◌, ◌-◌}
use Rattle.tv_outputs.specs.Known.{depths, needed}
use Rattle.tv_outputs.proofs.outputs.Outputs.reserve.Given as goal

abbrev pub invariant-loop-number : goal.invariant-loop-number
invariant-loop-number l = l.nodes ≡ needed (depths l.self) l.fn.first (l.number - l.fn.first)
