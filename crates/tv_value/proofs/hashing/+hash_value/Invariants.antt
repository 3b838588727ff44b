use Rattle.std.proofs.Common.{◌≡◌, fold, drop, map}
use Rattle.tv_value.specs.Nested.{trees_of}
use Rattle.tv_value.specs.Views.{view}
use Rattle.tv_value.specs.Writes.{values_writes}
use Rattle.tv_value.proofs.hashing.+hash_value.Given as goal

abbrev pub invariant-hash_values-loop-value : goal.invariant-hash_values-loop-value
invariant-hash_values-loop-value g l =
    fold g.H.Hasher.write l.state (values_writes (trees_of (map view (drop l.value-index l.value-items)))) ≡ fold g.H.Hasher.write l.fn.state (values_writes (trees_of (map view l.value-items)))
