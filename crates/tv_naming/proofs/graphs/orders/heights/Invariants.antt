use Rattle.std.proofs.Common.{◌≡◌, ◌||◌, ℕ, List, length, drop, get_or}
use Rattle.tv_naming.specs.graphs.Graphs.{is_one_of}
use Rattle.tv_naming.proofs.Arranged.{IsArranged}
use Rattle.tv_naming.proofs.Measuring.{IsMeasured}
use Rattle.tv_naming.proofs.graphs.orders.heights.Given as goal

abbrev pub invariant-loop-vertex : goal.invariant-loop-vertex
invariant-loop-vertex l = record {
  count : length l.heights.items ≡ length l.graph;
  so_far : (taken : List ℕ) × (length taken ≡ l.vertex-index) × IsArranged l.graph taken (drop l.vertex-index l.vertex-items) × IsMeasured l.graph taken (λ v. get_or l.heights.items v 0)
      × ((v : ℕ) → is_one_of l.vertex-items v ≡ (is_one_of taken v || is_one_of (drop l.vertex-index l.vertex-items) v));
}
