-- Which seats' jobs go on or can be bounced, by the frame and the seats alone, and which of a step is the first.
use Rattle.std.specs.Option.{option_map_or}
use Rattle.std.specs.Prelude.{Bool, List, None, Option, Some, false, if◌then◌else◌, slice_get, true, ℕ, ◌<◌, ◌≡◌, ◌⊎◌}
use Rattle.tv_flow.specs.Flows.{Flow}
use Rattle.tv_frame.specs.Answers.{IsReadyJob}
use Rattle.tv_frame.specs.FramingViews.{View}
use Rattle.tv_frame.specs.Calls.{HoldsError}
use Rattle.tv_frame.specs.Tables.{levels_in}
use Rattle.tv_model.specs.JobOrder.{place_before}
use Rattle.tv_seats.specs.Seats.{Seat, place_at, running_count}
use Rattle.tv_seats.specs.Stages.{is_aside, is_idle}
use Rattle.tv_forest.specs.seats.Seated.{spot_of}
use Rattle.tv_instances.specs.declared.firsts.Seeking.{Seeking}
use Rattle.tv_instances.specs.declared.firsts.Seeking.TheVariants as seeking

-- ---- one seat

-- its job is ready, as the frame has it
abbrev pub IsReadySeat : View → Seat → Type 0
IsReadySeat v s = IsReadyJob (levels_in v.flow) v (spot_of v.flow.steps s)

-- and whether it binds a fault
abbrev pub BindsFault : View → Seat → Bool → Type 0
BindsFault v s b = HoldsError v (spot_of v.flow.steps s) b

-- ---- bounces

-- a ready one that binds a fault, or all ready ones bind none
abbrev pub IsFirstFaulty : View → List Seat → Option ℕ → Type 0
IsFirstFaulty v ss None = (n : ℕ) (s : Seat) → slice_get ss n ≡ Some s → IsReadySeat v s
    → BindsFault v s false
IsFirstFaulty v ss (Some n) = (s : Seat) × (slice_get ss n ≡ Some s) × IsReadySeat v s
    × BindsFault v s true

-- ---- what goes on

abbrev pub asides : Seeking → Bool
asides seeking.Offers = false
asides seeking.All = true

-- how many jobs of a step may run
abbrev pub step_limit : Flow → ℕ → ℕ
step_limit f k = option_map_or (λ s. s.1.jobs) (slice_get f.steps k) 0

-- ---- the first of a step

module _ (ss : List Seat) (Is : Seat → Type 0) (step : ℕ) where
  -- the seat of that number is such a one of the step, and none of those has a lesser place
  pub record IsFirstSeat (n : ℕ) : Type 0 where
    pub seat : Seat
    pub there : slice_get ss n ≡ Some seat
    pub of_step : seat.step ≡ step
    pub does : Is seat
    pub first :
        (m : ℕ) (t : Seat) → slice_get ss m ≡ Some t → t.step ≡ step → Is t
        → place_before t.place seat.place ≡ false

  -- none exactly where no seat of the step is such a one
  abbrev pub IsFirstAt : Option ℕ → Type 0
  IsFirstAt None = (n : ℕ) (s : Seat) → slice_get ss n ≡ Some s → s.step ≡ step → Is s → ⊥
  IsFirstAt (Some n) = IsFirstSeat n

module _ (v : View) (ss : List Seat) (limit : ℕ) where
  -- fewer run than may, and its job is ready and binds no fault
  abbrev pub CanBegin : Seat → Type 0
  CanBegin s = (running_count s.step ss < limit) × IsReadySeat v s × BindsFault v s false

  -- its job goes on: it is idle, or was put aside where such jobs are sought, or can begin where jobs of its step may
  abbrev pub GoesOnAt : Bool → Bool → Seat → Type 0
  GoesOnAt with_asides begins s =
      (is_idle s.stage ≡ true)
      ⊎ (((with_asides ≡ true) × (is_aside s.stage ≡ true)) ⊎ ((begins ≡ true) × CanBegin s))

  abbrev pub IsFirstToBegin : ℕ → Option ℕ → Type 0
  IsFirstToBegin step o = IsFirstAt ss CanBegin step o

  abbrev pub IsFirstOwn : Bool → Bool → ℕ → Option ℕ → Type 0
  IsFirstOwn with_asides begins step o = IsFirstAt ss (GoesOnAt with_asides begins) step o

-- ---- two jobs

-- a job stands before another of its step, or there is no other
abbrev pub stands_before : List Seat → ℕ → Option ℕ → Bool
stands_before ss m o = option_map_or (λ n. place_before (place_at ss m) (place_at ss n)) o true

-- of two jobs of a step the one with the lesser place
abbrev pub lesser_of : List Seat → Option ℕ → Option ℕ → Option ℕ
lesser_of ss o None = o
lesser_of ss o (Some m) = if stands_before ss m o then Some m else o
