-- The values of a list's parts, each as if it were whole.
use Rattle.std.specs.Prelude.{◌≡◌, ℕ, ◌<◌, List, [], ◌∷◌, length, slice_get}
use Rattle.tv_value.specs.Values.{Value}
use Rattle.tv_parts.specs.Partials.{Partial, wanting, item, growing, closed, Parts, no_parts, part, part_at}
use Rattle.tv_parts.specs.Below.{value_in}
use Rattle.tv_outputs.specs.FoundIn.{found_in}

abbrev pub part_values : Parts Value → List Value
part_values no_parts = []
part_values (part p ps) = value_in p ∷ part_values ps

-- of the list that a tree is; none where it is no list
abbrev pub list_values : Partial Value → List Value
list_values wanting = []
list_values (item v) = []
list_values (growing ps) = part_values ps
list_values (closed ps) = part_values ps

-- so many parts of it are whole, and are these values
pub record AreParts (r : Partial Value) (count : ℕ) (vs : List Value) : Type 0 where
  pub many : length vs ≡ count
  pub each : (i : ℕ) → i < count → found_in [] (part_at r i) ≡ slice_get vs i
