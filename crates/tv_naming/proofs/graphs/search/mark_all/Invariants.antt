use Rattle.std.proofs.Common.{◌≡◌, ℕ, ◌+◌, ◌&&◌, ◌||◌, not, false, length, take, get_or, vec_len}
use Rattle.std.specs.List.{count_by}
use Rattle.tv_naming.specs.graphs.Graphs.{is_one_of}
use Rattle.tv_naming.proofs.graphs.search.mark_all.Given as goal

abbrev pub invariant-loop-vertex : goal.invariant-loop-vertex
invariant-loop-vertex l = record {
  count : length l.marks.items ≡ length l.initial.marks.items;
  marks : (u : ℕ) → get_or l.marks.items u false ≡ (get_or l.initial.marks.items u false || is_one_of (take l.vertex-index l.vertices) u);
  marked : (u : ℕ) → is_one_of l.marked.items u ≡ (is_one_of l.initial.marked.items u || (is_one_of (take l.vertex-index l.vertices) u && not (get_or l.initial.marks.items u false)));
  as_many : count_by not l.marks.items + vec_len l.marked ≡ count_by not l.initial.marks.items + vec_len l.initial.marked;
}
