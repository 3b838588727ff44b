-- What the calls make of what is known, and how many prefixes of a place hold a fault.
use Rattle.std.specs.Prelude.{◌≡◌, ◌≢◌, ℕ, ◌+◌, ◌≤◌, ◌<◌, List, [], ◌++◌, length, nat_lt, Option, Some, None, slice_get, slice_index_or, ◌⊎◌}
use Rattle.tv_value.specs.Nested.{Place}
use Rattle.tv_value.specs.Values.{Value, text_value, holds_fault}
use Rattle.tv_parts.specs.Partials.{Partial, HoldsFaults}
use Rattle.tv_parts.specs.Changes.{arrive, close_at, CanArrive, CanClose}
use Rattle.tv_outputs.specs.Known.{tree_in, depth_in}

-- the values arrive at the place, each in the next tree from the first on, and all other trees stay
pub record Arrive (first : ℕ) (q : Place) (values : List Value)
    (old new : List (Partial Value)) : Type 0 where
  pub arrived : (k : ℕ) (value : Value) → slice_get values k ≡ Some value → tree_in new (first + k)
      ≡ arrive q value (tree_in old (first + k))
  pub others : (j : ℕ) → (j < first) ⊎ (first + length values ≤ j) → tree_in new j ≡ tree_in old j
  pub as_many : length new ≡ length old

-- the list at the place is closed in so many trees from the first on, and all other trees stay
pub record Close (first count : ℕ) (q : Place) (size : ℕ)
    (old new : List (Partial Value)) : Type 0 where
  pub closed : (k : ℕ) → k < count → tree_in new (first + k)
      ≡ close_at q size (tree_in old (first + k))
  pub others : (j : ℕ) → (j < first) ⊎ (first + count ≤ j) → tree_in new j ≡ tree_in old j
  pub as_many : length new ≡ length old

-- one tree is another now
pub record Turns (number : ℕ) (tree : Partial Value) (old new : List (Partial Value)) : Type 0 where
  pub turned : tree_in new number ≡ tree
  pub others : (j : ℕ) → j ≢ number → tree_in new j ≡ tree_in old j
  pub as_many : length new ≡ length old

-- there are so many trees from the first on, and in each something may arrive at the place
pub record AllCanArrive (first count : ℕ) (q : Place) (ds : List ℕ)
    (trees : List (Partial Value)) : Type 0 where
  pub there : first + count ≤ length trees
  pub short : (k : ℕ) → k < count → length q ≤ depth_in ds (first + k)
  pub can : (k : ℕ) → k < count → CanArrive q (tree_in trees (first + k))

-- and in each the list at the place may be closed with this length
pub record AllCanClose (first count : ℕ) (q : Place) (size : ℕ) (ds : List ℕ)
    (trees : List (Partial Value)) : Type 0 where
  pub there : first + count ≤ length trees
  pub short : (k : ℕ) → k < count → length q < depth_in ds (first + k)
  pub can : (k : ℕ) → k < count → CanClose q size (tree_in trees (first + k))

-- the length where there is one, else one more than the place has
abbrev pub least_or_past : Place → Option ℕ → ℕ
least_or_past q None = length q + 1
least_or_past q (Some least) = least

-- what is read where there is no such value
abbrev pub no_value : Value
no_value = text_value []

-- so many counts of faults were pushed, for each tree its own
pub record Counted (count : ℕ) (q : Place) (old new : List ℕ)
    (tree : ℕ → Partial Value) : Type 0 where
  pub added : List ℕ
  pub all : new ≡ old ++ added
  pub many : length added ≡ count
  pub each : (k : ℕ) → k < count → HoldsFaults q (tree k) (slice_index_or added k 0)

-- the counts say which of these values hold a fault: those with one at the place itself
pub record AreMarked (q : Place) (values : List Value) (counts : List ℕ) : Type 0 where
  pub many : length values ≤ length counts
  pub each : (k : ℕ) → k < length values → nat_lt (length q) (slice_index_or counts k 0)
      ≡ holds_fault (slice_index_or values k no_value)
