use Rattle.std.proofs.Common.{◌≡◌, ℕ, List, ◌++◌, true, false, length, get_or, vec_len}
use Rattle.tv_naming.specs.graphs.Graphs.{is_one_of}
use Rattle.tv_naming.specs.graphs.Gathered.{IsVisited}
use Rattle.tv_naming.proofs.graphs.cyclic.cyclic.Given as goal

abbrev pub invariant-loop-vertex : goal.invariant-loop-vertex
invariant-loop-vertex l = record {
  count : length l.visited.items ≡ length l.graph;
  visited : IsVisited l.graph (λ u. get_or l.visited.items u false) l.found.items;
  rest : (popped : List ℕ) × (l.initial.left.items ≡ l.left.items ++ popped) × ((u : ℕ) → is_one_of popped u ≡ true → get_or l.visited.items u false ≡ true);
}

abbrev pub decreases-loop-vertex : goal.decreases-loop-vertex
decreases-loop-vertex l = vec_len l.left
