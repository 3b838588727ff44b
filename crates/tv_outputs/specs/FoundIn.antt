-- What is found at a place of a partial tree.
use Rattle.std.specs.Prelude.{if◌then◌else◌, [], ◌∷◌, Option, Some, None}
use Rattle.tv_value.specs.Nested.{Place, at}
use Rattle.tv_value.specs.Values.{Value}
use Rattle.tv_parts.specs.Partials.{Partial, wanting, item, growing, closed, part_of, whole}
use Rattle.tv_parts.specs.Below.{value_in}

-- at a node of the tree its value, where it is whole; below an item what stands in it
abbrev pub found_in : Place → Partial Value → Option Value
found_in [] r = if whole r then Some (value_in r) else None
found_in (i ∷ q) wanting = None
found_in (i ∷ q) (item v) = at v (i ∷ q)
found_in (i ∷ q) (growing ps) = found_in q (part_of ps i)
found_in (i ∷ q) (closed ps) = found_in q (part_of ps i)
