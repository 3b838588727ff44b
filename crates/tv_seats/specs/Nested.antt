-- The jobs of a step whose flow is open, in order of place.
use Rattle.std.specs.Prelude.{◌≡◌, ◌<◌, ◌≤◌, Bool, true, false, ℕ, List, Some, length, slice_get}
use Rattle.std.specs.Cmp.Lexicographic.{slice_cmp}
use Rattle.std.specs.Ordering.{is_lt, nat_cmp}
use Rattle.tv_seats.specs.Stages.{is_nested}
use Rattle.tv_seats.specs.Seats.{Seat, place_at}

-- seat n, which is s, is one of step k whose flow is open
pub record IsNestedSeat (seats : List Seat) (k n : ℕ) (s : Seat) : Type 0 where
  pub there : slice_get seats n ≡ Some s
  pub of_step : s.step ≡ k
  pub nested : is_nested s.stage ≡ true

-- these are their numbers, each before those with greater places
pub record AreNested (seats : List Seat) (k : ℕ) (ns : List ℕ) : Type 0 where
  pub nested : (i n : ℕ) → slice_get ns i ≡ Some n → (s : Seat) × IsNestedSeat seats k n s
  pub all : (n : ℕ) (s : Seat) → IsNestedSeat seats k n s → (i : ℕ) × (slice_get ns i ≡ Some n)
  pub in_order :
      (i j n m : ℕ) (s t : Seat)
      → slice_get ns i ≡ Some n
      → slice_get ns j ≡ Some m
      → IsNestedSeat seats k n s
      → IsNestedSeat seats k m t
      → i < j
      → is_lt (slice_cmp nat_cmp s.place t.place) ≡ true

-- ---- where a job stands among some

abbrev pub is_before : List Seat → ℕ → ℕ → Bool
is_before seats n m = is_lt (slice_cmp nat_cmp (place_at seats n) (place_at seats m))

-- just so many of them, the first ones, have lesser places
pub record StandsBehind (seats : List Seat) (ns : List ℕ) (n p : ℕ) : Type 0 where
  pub inside : p ≤ length ns
  pub before : (i m : ℕ) → i < p → slice_get ns i ≡ Some m → is_before seats m n ≡ true
  pub behind : (m : ℕ) → slice_get ns p ≡ Some m → is_before seats m n ≡ false
