-- How a bag is searched by the first indices of its places: the items that have the same ones are in one bucket.
use Rattle.std.specs.Prelude.{◌≡◌, ◌≢◌, ℕ, ◌<◌, ◌≤◌, List, length, get_or, take, Option}
use Rattle.tv_match.specs.Entries.{Entry, entry_at}

-- how many indices, and the items
pub record Grouped : Type 0 where
  pub depth : ℕ
  pub items : List Entry

abbrev pub grouped : ℕ → List Entry → Grouped
grouped d es = record { depth = d; items = es }

-- no two heads have one place, and there are as many buckets
pub record AreHeads (heads : List Entry) (count : ℕ) : Type 0 where
  pub room : length heads ≤ count
  pub apart : (a b : ℕ) → a < b → b < length heads → (entry_at heads a).place
      ≢ (entry_at heads b).place

-- each item is in the bucket of the head that has its first indices
pub record AreGrouped (depth : ℕ) (es heads : List Entry) (of : List ℕ) : Type 0 where
  pub long : length of ≡ length es
  pub within : (i : ℕ) → i < length es → get_or of i 0 < length heads
  pub keyed : (i : ℕ) → i < length es → (entry_at heads (get_or of i 0)).place
      ≡ take depth (entry_at es i).place

-- items that are found by their places, or by so many of the first indices
pub record Sought : Type 0 where
  pub key : Option ℕ
  pub items : List Entry

abbrev pub sought : Option ℕ → List Entry → Sought
sought k es = record { key = k; items = es }
