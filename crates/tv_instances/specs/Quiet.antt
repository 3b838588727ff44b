-- Steps in which no job goes on, and none can be bounced.
use Rattle.std.specs.Prelude.{Bool, List, Some, length, not, slice_get, true, ℕ, ◌++◌, ◌<◌, ◌||◌, ◌≡◌, ◌≤◌}
use Rattle.tv_value.specs.Nested.{Place}
use Rattle.tv_value.specs.Values.{Name}
use Rattle.tv_model.specs.instance.Events.{Events, has_result, is_taken}
use Rattle.tv_frame.specs.FramingViews.{View}
use Rattle.tv_frame.specs.turns.FirstReady.{by_falling_rank}
use Rattle.tv_seats.specs.Seats.{Seat}
use Rattle.tv_seats.specs.Stages.{is_aside, is_idle, is_nested}
use Rattle.tv_seats.specs.declared.stage.Stage.{Stage}
use Rattle.tv_forest.specs.seats.Seated.{spot_of}
use Rattle.tv_instances.specs.Turns.{AreTurns, turn_of}

-- ---- one seat

-- the job of a spot runs or has a result
abbrev pub has_begun : Events → Name × Place → Bool
has_begun es j = is_taken es j.0 j.1 || has_result es j.0 j.1

-- no try and no flow of it comes next, and none is open
abbrev pub is_calm : Stage → Bool
is_calm x = not (is_idle x || is_aside x || is_nested x)

pub record IsQuietSeat (v : View) (s : Seat) : Type 0 where
  pub begun : has_begun v.events (spot_of v.flow.steps s) ≡ true
  pub calm : is_calm s.stage ≡ true

-- ---- steps

abbrev pub IsQuietStep : View → List Seat → ℕ → Type 0
IsQuietStep v ss k = (n : ℕ) (s : Seat) → slice_get ss n ≡ Some s → s.step ≡ k → IsQuietSeat v s

-- so many of the first steps are quiet
pub record AreQuiet (v : View) (ss : List Seat) (ps : List ℕ) (from : ℕ) : Type 0 where
  pub turns : AreTurns (by_falling_rank v.flow) ps
  pub inside : from ≤ length (by_falling_rank v.flow)
  pub quiet :
      (n : ℕ) (s : Seat) → slice_get ss n ≡ Some s → turn_of ps s.step < from
      → IsQuietSeat v s

-- those are the steps by falling rank, but for some quiet ones in front
pub record AreGoing (v : View) (ss : List Seat) (ks : List ℕ) : Type 0 where
  pub passed : List ℕ
  pub in_order : passed ++ ks ≡ by_falling_rank v.flow
  pub quiet : (n k : ℕ) → slice_get passed n ≡ Some k → IsQuietStep v ss k
