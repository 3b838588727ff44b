use Rattle.std.proofs.Common.{◌-◌}
use Rattle.tv_outputs.proofs.Turning.{Closing}
use Rattle.tv_outputs.proofs.outputs.Outputs.close.Given as goal

abbrev pub invariant-loop-number : goal.invariant-loop-number
invariant-loop-number l = Closing l.fn.pool l.pool l.region l.fn.self.trees.items l.self.trees.items l.fn.first l.place l.length (l.number - l.fn.first)
