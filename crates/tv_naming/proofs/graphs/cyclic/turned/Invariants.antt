use Rattle.std.proofs.Common.{◌≡◌, ℕ, ◌&&◌, ltb, length}
use Rattle.tv_naming.specs.graphs.Graphs.{is_one_of, before}
use Rattle.tv_naming.specs.graphs.Waiting.{waiting_at, waiting_length}
use Rattle.tv_naming.proofs.graphs.cyclic.turned.Given as goal

abbrev pub invariant-loop-vertex : goal.invariant-loop-vertex
invariant-loop-vertex l = record {
  count : waiting_length l.after ≡ length l.graph;
  edges : (u v : ℕ) → is_one_of (waiting_at l.after u) v ≡ (ltb v l.vertex && is_one_of (before l.graph v) u);
}
