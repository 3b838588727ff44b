-- The known jobs of one instance as a contract sees them: each has a seat, which tells where it stands.
use Rattle.std.specs.Prelude.{◌≡◌, ◌==◌, ◌&&◌, ◌⊎◌, ◌-◌, ◌<◌, ◌≤◌, Bool, false, ℕ, List, Option, Some, [], count_by, length, option_map, slice_get, slice_index_or, slice_set}
use Rattle.std.specs.Option.{option_map_or}
use Rattle.tv_seats.specs.declared.stage.Stage.{Stage}
use Rattle.tv_seats.specs.declared.stage.Stage.TheVariants as stage
use Rattle.tv_seats.specs.Stages.{called_back, is_out, runs}

pub record Seat : Type 0 where
  -- the number of its step
  pub step : ℕ
  -- its place in the step's iteration
  pub place : List ℕ
  pub stage : Stage

pub record Seated : Type 0 where
  -- by number
  pub seats : List Seat
  -- the indices of each place, by step
  pub levels : List ℕ
  -- how many more can sit
  pub room : ℕ
  -- how many more can be put back, by step
  pub back_rooms : List ℕ
  -- how many more can be set aside, by step
  pub aside_rooms : List ℕ
  -- how many more flows can be open, by step
  pub nested_rooms : List ℕ

-- ---- one seat

abbrev pub stage_at : List Seat → ℕ → Option Stage
stage_at seats n = option_map (λ s. s.stage) (slice_get seats n)

-- seat n is at such a stage
abbrev pub stands : (Stage → Bool) → List Seat → ℕ → Bool
stands is seats n = option_map_or (λ s. is s.stage) (slice_get seats n) false

abbrev pub step_at : List Seat → ℕ → ℕ
step_at seats n = option_map_or (λ s. s.step) (slice_get seats n) 0

abbrev pub place_at : List Seat → ℕ → List ℕ
place_at seats n = option_map_or (λ s. s.place) (slice_get seats n) []

-- no seat of the step has that place
abbrev pub IsFree : List Seat → ℕ → List ℕ → Type 0
IsFree seats k q = (n : ℕ) (s : Seat) → slice_get seats n ≡ Some s → s.step ≡ k → s.place ≡ q → ⊥

-- ---- those of one step, and all

abbrev pub count_at : (Stage → Bool) → ℕ → List Seat → ℕ
count_at is k seats = count_by (λ s. s.step == k && is s.stage) seats

abbrev pub running_count : ℕ → List Seat → ℕ
running_count k seats = count_at runs k seats

abbrev pub seats_out : List Seat → ℕ
seats_out seats = count_by (λ s. is_out s.stage) seats

abbrev pub levels_of : List ℕ → ℕ → ℕ
levels_of levels k = slice_index_or levels k 0

abbrev pub room_at : List ℕ → ℕ → ℕ
room_at rooms k = slice_index_or rooms k 0

abbrev pub back_room : List ℕ → ℕ → ℕ
back_room rooms k = room_at rooms k

-- there is room to put all back that are out
abbrev pub HasBackRooms : Seated → Type 0
HasBackRooms s =
    (k : ℕ) → k < length s.levels → count_at is_out k s.seats ≤ back_room s.back_rooms k

-- the room of each step is as before, or for as many as are out
abbrev pub HasRoomsOrAsBefore : Seated → Seated → Type 0
HasRoomsOrAsBefore before after =
    (k : ℕ)
    → (back_room after.back_rooms k ≡ back_room before.back_rooms k)
    ⊎ (back_room after.back_rooms k ≡ count_at is_out k before.seats)

-- ---- what the calls change

-- one less of a step
abbrev pub one_less : ℕ → List ℕ → List ℕ
one_less k rooms = slice_set rooms k (room_at rooms k - 1)

-- the seat of a job that hasn't begun
abbrev pub new_seat : ℕ → List ℕ → Seat
new_seat k q = record { step = k; place = q; stage = stage.Waiting }

abbrev pub staged : Stage → Seat → Seat
staged x s = record { step = s.step; place = s.place; stage = x }

-- with seat n at another stage
abbrev pub with_stage : ℕ → Stage → List Seat → List Seat
with_stage n x seats = option_map_or (λ s. slice_set seats n (staged x s)) (slice_get seats n) seats

-- what is out is idle again
abbrev pub back : Seat → Seat
back s = staged (called_back s.stage) s

abbrev pub with_back : ℕ → List Seat → List Seat
with_back n seats = option_map_or (λ s. slice_set seats n (back s)) (slice_get seats n) seats
