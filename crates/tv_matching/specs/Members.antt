-- Members of lists, what stands at one place of a list of items, and items that stand at places of their own.
use Rattle.std.specs.Prelude.{◌≤◌, List, length, flat_map}
use Rattle.tv_value.specs.Nested.{Place}
use Rattle.tv_strategy.specs.Splits.{same_place}
use Rattle.tv_matching.specs.Items.{Item, if_so}

module _ {X F : Type 0} where
  -- the items at a place
  abbrev pub at_place : Place → List (Item X F) → List (Item X F)
  at_place q xs = flat_map (λ x. if_so (same_place q x.place) x) xs

  -- no place has two
  abbrev pub Once : List (Item X F) → Type 0
  Once xs = (q : Place) → length (at_place q xs) ≤ 1
