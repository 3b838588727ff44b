use Rattle.std.proofs.Common.{◌≡◌, ℕ, ◌||◌, false, length, take, get_or}
use Rattle.tv_naming.specs.graphs.Graphs.{is_one_of}
use Rattle.tv_naming.proofs.graphs.orders.marks_of.Given as goal

abbrev pub invariant-loop-vertex : goal.invariant-loop-vertex
invariant-loop-vertex l = record {
  count : length l.marks.items ≡ length l.initial.marks.items;
  marks : (u : ℕ) → get_or l.marks.items u false ≡ (get_or l.initial.marks.items u false || is_one_of (take l.vertex-index l.vertices) u);
}
