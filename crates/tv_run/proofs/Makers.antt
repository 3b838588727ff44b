-- The makers of the faults in a list of values, value by value, and lists that are mapped.
use Rattle.std.specs.Prelude.{◌≡◌, refl, ◌++◌, flat_map}
use Rattle.std.proofs.Common.{ap, ◌∙◌}
use Rattle.tv_value.specs.Nested.{Trees, no_trees, tree, leaves, all_leaves, items}
use Rattle.tv_value.specs.Values.{Scalar, makers_of}
use Rattle.tv_value.proofs.Faults.{makers-append}

pub makers-each : (ts : Trees (Unit {0}) Scalar) → makers_of (all_leaves ts) ≡ flat_map (λ v. makers_of (leaves v)) (items ts)
makers-each no_trees = refl
makers-each (tree t ts) = makers-append (leaves t) (all_leaves ts) ∙ ap (λ ns. makers_of (leaves t) ++ ns) (makers-each ts)
