-- A job of the run by its seat, in every open instance.
use Rattle.std.specs.Prelude.{Bool, List, Some, false, slice_get, true, ℕ, ◌||◌, ◌≡◌}
use Rattle.tv_value.specs.Values.{JobName, Name}
use Rattle.tv_gate.specs.Outcomes.{Giving}
use Rattle.tv_flow.specs.Flows.{Document}
use Rattle.tv_model.specs.Jobs.{Job}
use Rattle.tv_model.specs.Made.{Meaning}
use Rattle.tv_history.specs.Entries.{History, is_out}
use Rattle.tv_history.specs.Histories.{is_ready, is_running, is_settled}
use Rattle.tv_framing.specs.Answers.{numbered}
use Rattle.tv_framing.specs.Views.{View}
use Rattle.tv_seats.specs.Seats.{Seat}
use Rattle.tv_seats.specs.declared.stage.Stage.{Stage}
use Rattle.tv_seats.specs.declared.stage.Stage.TheVariants as stage
use Rattle.tv_forest.specs.views.InRun.{IsJobThere}
use Rattle.tv_forest.specs.seats.Seated.{Sit, spot_of}

-- P holds of the seats of every open instance of every run
abbrev pub InEveryRun :
    (Giving → Document → History → JobName → (Name → ℕ) → View → List Seat → Type 0) → Type 0
InEveryRun P =
    (gives : Giving) (d : Document) (past : History) (I : JobName) (levels : Name → ℕ) (v : View)
    → (ss : List Seat)
    → Sit gives d past I levels v ss → P gives d past I levels v ss

-- the job is that of this seat
abbrev pub IsJobOf : Giving → Document → JobName → View → Job → Seat → Type 0
IsJobOf gives d I v j s = IsJobThere gives d I j (spot_of v.flow.steps s)

-- P holds of each seat and its job
abbrev pub AtEachSeat :
    (Giving → Document → History → JobName → (Name → ℕ) → View → List Seat → ℕ → Seat → Job
    → Type 0)
    → Type 0
AtEachSeat P =
    InEveryRun (λ gives d past I levels v ss.
    (n : ℕ) (s : Seat) (j : Job) → slice_get ss n ≡ Some s → IsJobOf gives d I v j s
    → P gives d past I levels v ss n s j)

-- a seat has a job, which is the known one of the seat's number
pub record HasJob (gives : Giving) (d : Document) (I : JobName) (v : View) (n : ℕ)
    (s : Seat) : Type 0
  where
    pub job : Job
    pub is_its : IsJobOf gives d I v job s
    pub known : numbered v n ≡ Some (spot_of v.flow.steps s)

-- a job has a seat
pub record HasSeat (gives : Giving) (d : Document) (I : JobName) (v : View) (ss : List Seat)
    (j : Job)
    : Type 0 where
  pub number : ℕ
  pub seat : Seat
  pub there : slice_get ss number ≡ Some seat
  pub is_its : IsJobOf gives d I v j seat

-- a job stands somewhere: it is ready, runs, is settled, or a try of it is out
abbrev pub stands_anywhere : Meaning → History → Job → Bool
stands_anywhere m past j =
    is_ready m past j || is_running past j || is_settled past j || is_out past j.name

abbrev pub is_over : Stage → Bool
is_over stage.Settled = true
is_over x = false
