-- What is kept beside the seats: of each step which jobs are idle, set aside and nested, in order of place, and how many run and are out.
use Rattle.std.specs.Prelude.{◌≡◌, ℕ, ◌+◌, ◌^◌, ◌<◌, ◌≤◌, ◌&&◌, ◌⊎◌, Bool, true, List, [], ◌∷◌, Some, length, map, slice_get, vec_capacity}
use Rattle.std.specs.Cmp.Lexicographic.{slice_cmp}
use Rattle.std.specs.List.{list_all}
use Rattle.std.specs.Ordering.{is_lt, nat_cmp}
use Rattle.tv_seats.specs.declared.stage.Stage.{Stage}
use Rattle.tv_seats.specs.declared.steps.StepSeats.{StepSeats}
use Rattle.tv_seats.specs.Seats.{Seat, count_at, levels_of, seats_out}
use Rattle.tv_seats.specs.Stages.{is_aside, is_idle, is_nested, is_out, runs}
use Rattle.tv_seats.specs.Tables.{Rows}

-- ---- the jobs of one step at such a stage

-- each stands before all that follow
abbrev pub rises : List (ℕ × List ℕ) → Bool
rises [] = true
rises (j ∷ js) = list_all (λ k. is_lt (slice_cmp nat_cmp j.1 k.1)) js && rises js

abbrev pub IsOneOf : ℕ × List ℕ → List (ℕ × List ℕ) → Type 0
IsOneOf j [] = ⊥
IsOneOf j (k ∷ ks) = (j ≡ k) ⊎ IsOneOf j ks

-- seat n, which is s, is one of step k at such a stage
pub record IsSeatAt (is : Stage → Bool) (seats : List Seat) (k n : ℕ) (s : Seat) : Type 0 where
  pub there : slice_get seats n ≡ Some s
  pub of_step : s.step ≡ k
  pub stands : is s.stage ≡ true

-- a job is told by its number and its place
abbrev pub IsJobAt : (Stage → Bool) → List Seat → ℕ → ℕ × List ℕ → Type 0
IsJobAt is seats k j = (s : Seat) × IsSeatAt is seats k j.0 s × (s.place ≡ j.1)

-- those of step k, in order of place
pub record AreJobsAt (is : Stage → Bool) (seats : List Seat) (k : ℕ)
    (js : List (ℕ × List ℕ)) : Type 0 where
  pub in_order : rises js ≡ true
  pub each : (j : ℕ × List ℕ) → IsOneOf j js → IsJobAt is seats k j
  pub all : (j : ℕ × List ℕ) → IsJobAt is seats k j → IsOneOf j js

abbrev pub numbers_of : List (ℕ × List ℕ) → List ℕ
numbers_of js = map (λ j. j.0) js

-- these are their numbers
pub record AreNumbersAt (is : Stage → Bool) (seats : List Seat) (k : ℕ) (ns : List ℕ) : Type 0 where
  pub jobs : List (ℕ × List ℕ)
  pub numbers : ns ≡ numbers_of jobs
  pub are : AreJobsAt is seats k jobs

-- ---- one step

pub record StepIsKept (seats : List Seat) (k : ℕ) (x : StepSeats) : Type 0 where
  pub idle : AreJobsAt is_idle seats k x.idle.jobs
  pub aside : AreJobsAt is_aside seats k x.aside.jobs
  pub nested : AreNumbersAt is_nested seats k x.nested.items
  pub levels : x.aside.levels ≡ x.idle.levels
  pub room : length x.nested.items + x.nested_room ≤ vec_capacity x.nested
  pub running : x.running ≡ count_at runs k seats
  pub out : x.out ≡ count_at is_out k seats

-- ---- all steps

abbrev pub all_levels : List StepSeats → List ℕ
all_levels xs = map (λ x. x.idle.levels) xs

abbrev pub all_rooms : List StepSeats → List ℕ
all_rooms xs = map (λ x. x.idle.room) xs

abbrev pub all_aside_rooms : List StepSeats → List ℕ
all_aside_rooms xs = map (λ x. x.aside.room) xs

abbrev pub all_nested_rooms : List StepSeats → List ℕ
all_nested_rooms xs = map (λ x. x.nested_room) xs

-- no two seats of a step have one place
abbrev pub AreApart : List Seat → Type 0
AreApart seats =
    (n m : ℕ) (s t : Seat) → slice_get seats n ≡ Some s → slice_get seats m ≡ Some t
    → s.step ≡ t.step → s.place ≡ t.place → n ≡ m

-- a seat is of one of the steps, and its place has the indices of that
abbrev pub AreOfSteps : List ℕ → List Seat → Type 0
AreOfSteps levels seats =
    (n : ℕ) (s : Seat) → slice_get seats n ≡ Some s
    → (s.step < length levels) × (length s.place ≡ levels_of levels s.step)

pub record AreKept (table : Rows) (steps : List StepSeats) (out : ℕ) : Type 0 where
  pub each : (k : ℕ) (x : StepSeats) → slice_get steps k ≡ Some x → StepIsKept table.seats k x
  pub of_steps : AreOfSteps (all_levels steps) table.seats
  pub apart : AreApart table.seats
  pub wide : (k : ℕ) → levels_of (all_levels steps) k ≤ table.widest
  pub outs : out ≡ seats_out table.seats
  pub numbers : length table.seats + table.room < 2 ^ 32
