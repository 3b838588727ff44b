-- The ready jobs of a step as a contract sees them: in order of place, each with its number.
use Rattle.std.specs.Prelude.{ℕ, List, [], ◌∷◌, if◌then◌else◌}
use Rattle.std.specs.Ordering.{is_lt, nat_cmp}
use Rattle.std.specs.Cmp.Lexicographic.{slice_cmp}

pub record Listed : Type 0 where
  pub jobs : List (ℕ × List ℕ)
  -- the indices of each place
  pub levels : ℕ
  -- how many more can be put
  pub room : ℕ

-- one more job in its place, after others with the same place
abbrev pub with_job : ℕ × List ℕ → List (ℕ × List ℕ) → List (ℕ × List ℕ)
with_job j [] = j ∷ []
with_job j (k ∷ ks) = if is_lt (slice_cmp nat_cmp j.1 k.1) then j ∷ k ∷ ks else k ∷ with_job j ks
