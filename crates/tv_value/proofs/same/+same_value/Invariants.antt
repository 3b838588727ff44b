use Rattle.std.proofs.Common.{◌≡◌, drop, map}
use Rattle.tv_value.specs.Views.{view}
use Rattle.tv_value.specs.Sameness.{same_values}
use Rattle.tv_value.proofs.same.+same_value.Given as goal

abbrev pub invariant-same_items-loop-index : goal.invariant-same_items-loop-index
invariant-same_items-loop-index l =
    same_values (map view l.first) (map view l.second) ≡ same_values (map view (drop l.index l.first)) (map view (drop l.index l.second))
