-- Where the steps of a flow stand in their order, and how many of the first are passed.
use Rattle.std.specs.Option.{option_map_or}
use Rattle.std.specs.Prelude.{List, Some, slice_get, ℕ, ◌≡◌, ◌≤◌}
use Rattle.tv_seats.specs.Seats.{Seat}
use Rattle.tv_instances.specs.declared.turns.Turns.{Turns}

-- the position of a step by a table
abbrev pub turn_of : List ℕ → ℕ → ℕ
turn_of ps k = option_map_or (λ i. i) (slice_get ps k) 0

-- the table has for each step of the order the first position at which it stands
pub record AreTurns (order ps : List ℕ) : Type 0 where
  pub there : (i k : ℕ) → slice_get order i ≡ Some k → slice_get order (turn_of ps k) ≡ Some k
  pub first : (i k : ℕ) → slice_get order i ≡ Some k → turn_of ps k ≤ i

-- a step isn't passed from now on
pub record TakesIn (t u : Turns) (k : ℕ) : Type 0 where
  pub positions : u.positions.items ≡ t.positions.items
  pub fewer : u.from ≤ t.from
  pub ahead : u.from ≤ turn_of t.positions.items k

-- nor is the step of any of the seats from that number on
pub record TakeIn (t u : Turns) (n : ℕ) (ss : List Seat) : Type 0 where
  pub positions : u.positions.items ≡ t.positions.items
  pub fewer : u.from ≤ t.from
  pub ahead :
      (m : ℕ) (s : Seat) → slice_get ss m ≡ Some s → n ≤ m
      → u.from ≤ turn_of t.positions.items s.step

-- no step is passed
pub record AreRestarted (t u : Turns) : Type 0 where
  pub positions : u.positions.items ≡ t.positions.items
  pub none : u.from ≡ 0
