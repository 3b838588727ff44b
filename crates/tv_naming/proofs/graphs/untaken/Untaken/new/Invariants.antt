use Rattle.std.proofs.Common.{◌≡◌, ℕ, false, not, ltb}
use Rattle.tv_naming.specs.graphs.Untaken.{HasPlaces, IsTable, is_taken}
use Rattle.tv_naming.proofs.graphs.untaken.Untaken.new.Given as goal

abbrev pub invariant-loop-vertex : goal.invariant-loop-vertex
invariant-loop-vertex l = record {
  places : HasPlaces l.graph l.table;
  table : IsTable l.graph (λ v. not (ltb v l.vertex)) l.table;
  nothing_taken : (v : ℕ) → is_taken l.table v ≡ false;
}
