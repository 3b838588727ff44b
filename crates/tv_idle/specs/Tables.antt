-- Jobs with their places as a contract sees them: by the order in which they were put.
use Rattle.std.specs.Prelude.{ℕ, List}

pub record Rows : Type 0 where
  -- each with its number and its place
  pub jobs : List (ℕ × List ℕ)
  -- the indices of each place
  pub levels : ℕ
  -- how many more can be put
  pub room : ℕ
