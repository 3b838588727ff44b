-- How a bag is searched by place: its items hang in a tree, each below an earlier one, by four links of each.
use Rattle.std.specs.Prelude.{◌≡◌, ℕ, zero, suc, ◌==◌, ◌+◌, ◌*◌, ◌/◌, ◌%◌, ◌^◌, ◌<◌, ◌≤◌, nat_lt, List, length, get_or, if◌then◌else◌}
use Rattle.tv_value.specs.Nested.{Place}
use Rattle.tv_match.specs.Entries.{Entry, entry_at}

-- by which link the way to a place leads on, so many levels below the first item: the digits of its indices to base 4
abbrev pub digit_of : Place → ℕ → ℕ
digit_of q level = if length q == 0 then 0 else (if nat_lt (level / length q) 16
    then (get_or q (level % length q) 0 / 2 ^ (2 * (level / length q))) % 4 else 0)

-- the links of all items, one item's after the other's; a link that leads to no item is too great
abbrev pub link_at : List ℕ → ℕ → ℕ
link_at links i = get_or links i 0

-- the way to a place leads from one item to another, by so many links, each to a later item
abbrev pub Reaches : List ℕ → Place → ℕ → ℕ → ℕ → ℕ → Type 0
Reaches links q zero to at level = at ≡ to
Reaches links q (suc n) to at level = (at < to)
    × Reaches links q n to (link_at links (4 * at + digit_of q level)) (suc level)

abbrev pub Leads : List ℕ → Place → ℕ → ℕ → ℕ → Type 0
Leads links q to at level = (n : ℕ) × Reaches links q n to at level

-- each link leads to a later item, if to any
abbrev pub AreRising : List ℕ → Type 0
AreRising links = (i : ℕ) → i < length links → i < 4 * link_at links i

-- each item stands on the way to its place
pub record AreLinked (links : List ℕ) (es : List Entry) : Type 0 where
  pub four : length links ≡ 4 * length es
  pub rising : AreRising links
  pub lead : (i : ℕ) → i < length es → Leads links (entry_at es i).place i 0 0

-- links between the first items are the same
abbrev pub Agree : ℕ → List ℕ → List ℕ → Type 0
Agree count links more = (i : ℕ) → i < 4 * count → link_at links i < count → link_at more i
    ≡ link_at links i

-- a link of the first items, by which another one can hang on the way to a place
pub record CanHang (links : List ℕ) (count : ℕ) (q : Place) (i : ℕ) : Type 0 where
  pub within : i < 4 * count
  pub free : count ≤ link_at links i
  pub hangs : (more : List ℕ) → Agree count links more → link_at more i ≡ count
      → Leads more q count 0 0
