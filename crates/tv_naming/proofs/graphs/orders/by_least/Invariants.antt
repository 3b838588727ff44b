use Rattle.std.proofs.Common.{◌≡◌, ℕ, ◌+◌, ◌++◌, List, length}
use Rattle.tv_naming.specs.graphs.Graphs.{is_one_of, by_least, taken_by_least}
use Rattle.tv_naming.specs.graphs.Untaken.{HasPlaces, IsTable, is_taken, none}
use Rattle.tv_naming.proofs.graphs.orders.by_least.Given as goal

abbrev pub invariant-loop : goal.invariant-loop
invariant-loop l = record {
  places : HasPlaces l.graph l.untaken;
  table : IsTable l.graph none l.untaken;
  rest : (left : ℕ) × (taken : List ℕ) × (left + l.counter ≡ length l.graph) × ((u : ℕ) → is_taken l.untaken u ≡ is_one_of taken u) × (by_least l.graph ≡ l.order.items ++ taken_by_least l.graph left taken);
}
