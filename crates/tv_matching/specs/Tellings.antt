-- What a matcher is told: items of leaves, one at a time.
use Rattle.std.specs.Prelude.{ℕ, List, length, flat_map}
use Rattle.tv_value.specs.Values.{Name}
use Rattle.tv_value.specs.Orders.{same_name}
use Rattle.tv_value.specs.Strategies.{Strategy}
use Rattle.tv_matching.specs.Items.{Item, if_so}
use Rattle.tv_matching.specs.Matched.{matched, gained}

pub record Telling (X F : Type 0) : Type 0 where
  pub leaf : Name
  pub item : Item X F

module _ {X F : Type 0} where
  -- what was told of one leaf
  abbrev pub told_of : List (Telling X F) → Name → List (Item X F)
  told_of tellings p = flat_map (λ t. if_so (same_name p t.leaf) t.item) tellings

  -- what is matched after these tellings
  abbrev pub after : Strategy → List (Telling X F) → List (Item X F)
  after s tellings = matched (told_of tellings) s

  -- what further tellings add
  abbrev pub added_by : Strategy → List (Telling X F) → List (Telling X F) → List (Item X F)
  added_by s tellings more = gained (told_of tellings) (told_of more) s

  -- how many items further tellings add
  abbrev pub room_for : Strategy → List (Telling X F) → List (Telling X F) → ℕ
  room_for s tellings more = length (added_by s tellings more)
