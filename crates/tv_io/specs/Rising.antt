-- Counts of faults, which never fall and stand still at the greatest u64.
use Rattle.std.specs.Prelude.{ℕ, ◌+◌, ◌-◌, ◌^◌, ◌<◌, min}

-- the count is greater than before, or stands at the greatest u64
abbrev pub HasRisen : ℕ → ℕ → Type 0
HasRisen before after = after < 2 ^ 64 - 1 → before < after

-- one more, or the greatest u64
abbrev pub one_more : ℕ → ℕ
one_more count = min (count + 1) (2 ^ 64 - 1)
