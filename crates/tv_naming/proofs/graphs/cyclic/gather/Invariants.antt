use Rattle.std.proofs.Common.{◌≡◌, ◌+◌, not, false, length, get_or, vec_len}
use Rattle.std.specs.List.{count_by}
use Rattle.tv_naming.specs.graphs.Graphs.{is_one_of}
use Rattle.tv_naming.specs.graphs.Waiting.{waiting_at}
use Rattle.tv_naming.proofs.Gathers.{IsGathering}
use Rattle.tv_naming.proofs.graphs.cyclic.gather.Given as goal

abbrev pub invariant-loop-next : goal.invariant-loop-next
invariant-loop-next l = record {
  count : length l.visited.items ≡ length l.graph;
  gathering : IsGathering (waiting_at l.after) l.vertex (λ u. get_or l.fn.visited.items u false) (λ u. get_or l.visited.items u false) l.fn.found.items l.found.items (is_one_of l.left.items);
}

abbrev pub decreases-loop-next : goal.decreases-loop-next
decreases-loop-next l = count_by not l.visited.items + vec_len l.left
