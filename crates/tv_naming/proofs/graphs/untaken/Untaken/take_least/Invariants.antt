use Rattle.std.proofs.Common.{◌≡◌, ℕ, ◌<◌, true, false, ◌||◌, eqb, length, drop}
use Rattle.tv_naming.specs.graphs.Graphs.{is_one_of}
use Rattle.tv_naming.specs.graphs.Untaken.{HasPlaces, IsTable, is_taken}
use Rattle.tv_naming.proofs.graphs.untaken.Untaken.take_least.Given as goal

abbrev pub invariant-loop-other : goal.invariant-loop-other
invariant-loop-other l = record {
  places : HasPlaces l.graph l.self;
  table : IsTable l.graph (is_one_of (drop l.other-index l.other-items)) l.self;
  taken : (u : ℕ) → is_taken l.self u ≡ (is_taken l.fn.self u || eqb u l.vertex);
  others : (v : ℕ) → is_one_of l.other-items v ≡ true → (v < length l.graph) × (is_taken l.self v ≡ false);
}
