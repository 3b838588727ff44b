use Rattle.std.proofs.Common.{length, ◌++◌, ◌≡◌}
use Rattle.tv_lineage.proofs.search.Search.into_labels.Given as goal

abbrev pub invariant-loop-label : goal.invariant-loop-label
invariant-loop-label l = l.labels.items ++ l.found.keys ≡ l.fn.self.found.keys

abbrev pub decreases-loop-label : goal.decreases-loop-label
decreases-loop-label l = length l.found.keys
