-- The places of a step's iteration that are told of, row by row.
use Rattle.std.specs.Prelude.{ℕ, zero, suc, List, [], ◌∷◌, ◌++◌, flat_map, Option, Some, None}
use Rattle.tv_value.specs.Nested.{Place}
use Rattle.tv_frame.specs.Levels.{What, came, closed}

-- how many items a list is told to have
abbrev pub count_of : Option What → ℕ
count_of (Some (closed n)) = n
count_of (Some (came k)) = 0
count_of None = 0

-- the places of its first items
abbrev pub first_items : Place → ℕ → List Place
first_items q zero = []
first_items q (suc n) = first_items q n ++ (q ++ n ∷ []) ∷ []

module _ (what : Place → Option What) where
  -- and of all
  abbrev pub items_at : Place → List Place
  items_at q = first_items q (count_of (what q))

  -- the places below so many levels
  abbrev pub row : ℕ → List Place
  row zero = [] ∷ []
  row (suc levels) = flat_map items_at (row levels)
