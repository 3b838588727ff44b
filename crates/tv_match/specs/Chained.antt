-- Items in buckets, and of each the one before it in its bucket.
use Rattle.std.specs.Prelude.{◌≡◌, ◌≢◌, ℕ, zero, suc, ◌<◌, List, length, get_or}

-- the item at i is the last before `before` that is in bucket b
pub record IsLast (bs : List ℕ) (b before i : ℕ) : Type 0 where
  pub is_before : i < before
  pub is_there : get_or bs i 0 ≡ b
  pub none_after : (j : ℕ) → i < j → j < before → get_or bs j 0 ≢ b

-- none is
abbrev pub NoneIn : List ℕ → ℕ → ℕ → Type 0
NoneIn bs b before = (j : ℕ) → j < before → get_or bs j 0 ≢ b

-- what a link tells: nothing, or one more than the last
abbrev pub Tells : List ℕ → ℕ → ℕ → ℕ → Type 0
Tells bs b before zero = NoneIn bs b before
Tells bs b before (suc i) = IsLast bs b before i

pub record AreChained (bs before last : List ℕ) : Type 0 where
  pub long : length before ≡ length bs
  pub within : (i : ℕ) → i < length bs → get_or bs i 0 < length last
  pub befores : (i : ℕ) → i < length bs → Tells bs (get_or bs i 0) i (get_or before i 0)
  pub lasts : (b : ℕ) → b < length last → Tells bs b (length bs) (get_or last b 0)

-- the bucket of each item, and how many buckets there are
pub record Bucketed : Type 0 where
  pub of : List ℕ
  pub count : ℕ
