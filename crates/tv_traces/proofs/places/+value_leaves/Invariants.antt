use Rattle.std.proofs.Common.{◌≡◌, ◌++◌, map, take}
use Rattle.tv_value.specs.Nested.{trees_of}
use Rattle.tv_value.specs.Views.{view}
use Rattle.tv_traces.specs.Leaves.{places_from}
use Rattle.tv_traces.proofs.places.+value_leaves.Given as goal

abbrev pub invariant-push_values_places-loop-index : goal.invariant-push_values_places-loop-index
invariant-push_values_places-loop-index l = l.places.items ≡ l.fn.places.items ++ places_from l.place 0 (trees_of (map view (take l.index l.values)))
