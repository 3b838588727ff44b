-- The first idle job of a step, in order of place, and the first that was set aside.
use Rattle.std.specs.Prelude.{◌≡◌, ◌⊎◌, true, false, ℕ, List, Option, Some, None, slice_get}
use Rattle.std.specs.Cmp.Lexicographic.{slice_cmp}
use Rattle.std.specs.Ordering.{is_lt, nat_cmp}
use Rattle.tv_seats.specs.Stages.{is_aside, is_idle, is_waiting}
use Rattle.tv_seats.specs.Seats.{Seat, stands}

-- ---- idle ones

-- seat n, which is s, is an idle one of step k
pub record IsIdleSeat (seats : List Seat) (k n : ℕ) (s : Seat) : Type 0 where
  pub there : slice_get seats n ≡ Some s
  pub of_step : s.step ≡ k
  pub idle : is_idle s.stage ≡ true

-- and no other of them has a lesser place
pub record IsFirstIdle (seats : List Seat) (k n : ℕ) : Type 0 where
  pub seat : Seat
  pub is : IsIdleSeat seats k n seat
  pub first :
      (m : ℕ) (t : Seat)
      → IsIdleSeat seats k m t
      → is_lt (slice_cmp nat_cmp t.place seat.place) ≡ false

-- none exactly where no seat of the step is idle
abbrev pub IsFirstOf : List Seat → ℕ → Option ℕ → Type 0
IsFirstOf seats k None = (n : ℕ) (s : Seat) → IsIdleSeat seats k n s → ⊥
IsFirstOf seats k (Some n) = IsFirstIdle seats k n

-- a seat whose job may be handed out: one that waits, or the first idle one of its step
abbrev pub MayGoOut : List Seat → ℕ → Type 0
MayGoOut seats n = (stands is_waiting seats n ≡ true) ⊎ ((k : ℕ) × IsFirstIdle seats k n)

-- ---- those set aside

-- seat n, which is s, is one of step k that was set aside
pub record IsAsideSeat (seats : List Seat) (k n : ℕ) (s : Seat) : Type 0 where
  pub there : slice_get seats n ≡ Some s
  pub of_step : s.step ≡ k
  pub aside : is_aside s.stage ≡ true

-- and no other of them has a lesser place
pub record IsFirstAside (seats : List Seat) (k n : ℕ) : Type 0 where
  pub seat : Seat
  pub is : IsAsideSeat seats k n seat
  pub first :
      (m : ℕ) (t : Seat)
      → IsAsideSeat seats k m t
      → is_lt (slice_cmp nat_cmp t.place seat.place) ≡ false

-- none exactly where no seat of the step was set aside
abbrev pub IsFirstAsideOf : List Seat → ℕ → Option ℕ → Type 0
IsFirstAsideOf seats k None = (n : ℕ) (s : Seat) → IsAsideSeat seats k n s → ⊥
IsFirstAsideOf seats k (Some n) = IsFirstAside seats k n

-- a seat whose job's flow may be opened: one that waits, or the first of its step that was set aside
abbrev pub MayNest : List Seat → ℕ → Type 0
MayNest seats n = (stands is_waiting seats n ≡ true) ⊎ ((k : ℕ) × IsFirstAside seats k n)
