use Rattle.std.proofs.Common.{◌+◌, ◌-◌, ℕ}
use Rattle.tv_parts.specs.Changes.{close_at}
use Rattle.tv_outputs.specs.Known.{known, depths, tree_in}
use Rattle.tv_outputs.specs.Changes.{Counted, AllCanClose}
use Rattle.tv_outputs.proofs.outputs.Outputs.faults_by_close.Given as goal

abbrev pub invariant-loop-number : goal.invariant-loop-number
invariant-loop-number l = (size : ℕ) → AllCanClose l.fn.first l.fn.count l.place size (depths l.self) (known l.pool l.self) → Counted (l.number - l.fn.first) l.place l.fn.faults.items l.faults.items (λ k. close_at l.place size (tree_in (known l.pool l.self) (l.fn.first + k)))
