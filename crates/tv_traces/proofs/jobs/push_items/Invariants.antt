use Rattle.std.proofs.Common.{◌≡◌, ◌++◌}
use Rattle.tv_traces.specs.Rows.{first_items}
use Rattle.tv_traces.proofs.jobs.push_items.Given as goal

abbrev pub invariant-loop-index : goal.invariant-loop-index
invariant-loop-index l = l.inner.items ≡ l.fn.inner.items ++ first_items l.place l.index
