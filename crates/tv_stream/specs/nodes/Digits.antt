-- The digits of an index to base 4, the least first.
use Rattle.std.specs.Prelude.{◌≡◌, ℕ, zero, suc, ◌/◌, ◌%◌}

-- without its first digits
abbrev pub without : ℕ → ℕ → ℕ
without zero i = i
without (suc n) i = without n (i / 4)

-- so many digits are the same
abbrev pub Agree : ℕ → ℕ → ℕ → Type 0
Agree zero i j = Unit {0}
Agree (suc n) i j = (i % 4 ≡ j % 4) × Agree n (i / 4) (j / 4)
