-- Laws of what the seats of an open instance tell of its jobs.
use Rattle.std.specs.Prelude.{Bool, List, Some, count_by, slice_get, true, ℕ, ◌&&◌, ◌≡◌}
use Rattle.tv_lemmas.specs.Members.{In}
use Rattle.tv_value.specs.Orders.{same_job, same_name}
use Rattle.tv_value.specs.Values.{JobName, Name}
use Rattle.tv_gate.specs.Outcomes.{Giving}
use Rattle.tv_flow.specs.Flows.{Document, Step}
use Rattle.tv_model.specs.Jobs.{Job}
use Rattle.tv_model.specs.Meanings.{meaning}
use Rattle.tv_history.specs.Histories.{is_running}
use Rattle.tv_framing.specs.Views.{View}
use Rattle.tv_seats.specs.Kept.{AreApart}
use Rattle.tv_seats.specs.Seats.{Seat, running_count}
use Rattle.tv_forest.specs.tries.Steps.{IsOwnStep}
use Rattle.tv_forest.specs.seats.Seated.{spot_of}
use Rattle.tv_forest.specs.stands.Seats.{AtEachSeat, HasJob, HasSeat, InEveryRun, IsJobOf, stands_anywhere}

-- ---- seats and jobs

abbrev pub SeatsHaveJobs : Type 0
SeatsHaveJobs =
    InEveryRun (λ gives d past I levels v ss.
    (n : ℕ) (s : Seat) → slice_get ss n ≡ Some s → HasJob gives d I v n s)

abbrev pub JobsHaveSeats : Type 0
JobsHaveSeats =
    InEveryRun (λ gives d past I levels v ss.
    (j : Job) → In j (meaning gives d).jobs → j.instance ≡ I
    → stands_anywhere (meaning gives d) past j ≡ true
    → HasSeat gives d I v ss j)

-- no two seats are at one spot
pub record AreAtOwnSpots (v : View) (ss : List Seat) : Type 0 where
  pub spots :
      (n k : ℕ) (s t : Seat) → slice_get ss n ≡ Some s → slice_get ss k ≡ Some t
      → spot_of v.flow.steps s ≡ spot_of v.flow.steps t → n ≡ k
  pub places : AreApart ss

abbrev pub SeatsAreApart : Type 0
SeatsAreApart = InEveryRun (λ gives d past I levels v ss. AreAtOwnSpots v ss)

-- the job of a seat is of the step that the seat is of
abbrev pub StepsOfSeats : Type 0
StepsOfSeats =
    AtEachSeat (λ gives d past I levels v ss n s j.
    (t : Name × Step) → slice_get v.flow.steps s.step ≡ Some t → IsOwnStep gives d j t.1)

-- ---- how many

-- each job of the instance that counts has a seat, and counts where its seat does
pub record IsToldBySeats (gives : Giving) (d : Document) (I : JobName) (v : View) (ss : List Seat)
    (counts : Job → Bool) (seat_counts : Seat → Bool) : Type 0 where
  pub seated :
      (j : Job) → In j (meaning gives d).jobs → j.instance ≡ I → counts j ≡ true
      → HasSeat gives d I v ss j
  pub alike :
      (n : ℕ) (s : Seat) (j : Job) → slice_get ss n ≡ Some s → IsJobOf gives d I v j s
      → counts j ≡ seat_counts s

abbrev pub CountsBySeats : Type 0
CountsBySeats =
    InEveryRun (λ gives d past I levels v ss.
    (counts : Job → Bool) (seat_counts : Seat → Bool)
    → IsToldBySeats gives d I v ss counts seat_counts
    → count_by (λ j. same_job j.instance I && counts j) (meaning gives d).jobs
    ≡ count_by seat_counts ss)

-- so many of a step run
abbrev pub RunningBySeats : Type 0
RunningBySeats =
    InEveryRun (λ gives d past I levels v ss.
    (k : ℕ) (t : Name × Step) → slice_get v.flow.steps k ≡ Some t
    → count_by (λ j. same_job j.instance I && same_name j.step t.0 && is_running past j)
    (meaning gives d).jobs
    ≡ running_count k ss)
