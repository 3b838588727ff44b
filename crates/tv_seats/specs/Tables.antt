-- A table of seats as a contract sees it.
use Rattle.std.specs.Prelude.{ℕ, List}
use Rattle.tv_seats.specs.Seats.{Seat}

pub record Rows : Type 0 where
  -- by number
  pub seats : List Seat
  -- the most indices that a place has
  pub widest : ℕ
  -- how many more can be put
  pub room : ℕ
