-- What the seats of all instances together tell of the run: which jobs there are, how many, and their names. What the seats of
-- one instance tell stands in `stands`.
use Rattle.std.specs.Prelude.{Bool, List, Some, count_by, filter, length, slice_get, sum_by, true, ℕ, ◌≡◌}
use Rattle.tv_lemmas.specs.Members.{In}
use Rattle.tv_gate.specs.Outcomes.{Giving}
use Rattle.tv_flow.specs.Flows.{Document}
use Rattle.tv_model.specs.Jobs.{Job}
use Rattle.tv_model.specs.Meanings.{meaning}
use Rattle.tv_history.specs.Entries.{History}
use Rattle.tv_history.specs.Histories as histories
use Rattle.tv_history.specs.Histories.{is_settled}
use Rattle.tv_history.specs.Runs.{flow_of}
use Rattle.tv_seats.specs.Seats.{Seat, seats_out}
use Rattle.tv_forest.specs.stands.Seats.{is_over, stands_anywhere}
use Rattle.tv_forest.specs.stands.States.{AreNamesOfJobs, IsJobOfNumber}
use Rattle.tv_forest.specs.Entries.{InEveryForest}
use Rattle.tv_forest.specs.Forest.{AreNumbered, Instance, Instances, IsAt, IsJobAt, names_by}

-- ---- seats and jobs

-- the job has a seat in an instance that is open or has ended
pub record HasSeat (gives : Giving) (d : Document) (xs : Instances) (j : Job) : Type 0 where
  pub outer : ℕ
  pub number : ℕ
  pub instance : Instance
  pub seat : Seat
  pub is_its : IsJobAt gives d xs outer number instance seat j

-- so has each that is ready, runs, is settled or out
abbrev pub JobsHaveSeats : Type 0
JobsHaveSeats =
    InEveryForest (λ gives d levels past xs.
    (j : Job) → In j (meaning gives d).jobs → stands_anywhere (meaning gives d) past j ≡ true
    → HasSeat gives d xs j)

-- the seat has a job, of which it is the only one
pub record IsOnlySeat (gives : Giving) (d : Document) (xs : Instances) (i n : ℕ) (x : Instance)
    (s : Seat) : Type 0 where
  pub job : Job
  pub is_its : IsJobAt gives d xs i n x s job
  pub only :
      (k m : ℕ) (y : Instance) (t : Seat) → IsJobAt gives d xs k m y t job → (k ≡ i) × (m ≡ n)

abbrev pub SeatsHaveJobs : Type 0
SeatsHaveJobs =
    InEveryForest (λ gives d levels past xs.
    (i n : ℕ) (x : Instance) (s : Seat) → IsAt xs i x → slice_get x.seats n ≡ Some s
    → IsOnlySeat gives d xs i n x s)

-- ---- how many

-- each job that counts has a seat, and counts where its seat does
pub record IsToldBySeats (gives : Giving) (d : Document) (xs : Instances) (counts : Job → Bool)
    (seat_counts : Seat → Bool)
    : Type 0 where
  pub seated : (j : Job) → In j (meaning gives d).jobs → counts j ≡ true → HasSeat gives d xs j
  pub alike :
      (i n : ℕ) (x : Instance) (s : Seat) (j : Job) → IsJobAt gives d xs i n x s j
      → counts j ≡ seat_counts s

abbrev pub CountsBySeats : Type 0
CountsBySeats =
    InEveryForest (λ gives d levels past xs.
    (counts : Job → Bool) (seat_counts : Seat → Bool) → IsToldBySeats gives d xs counts seat_counts
    → count_by counts (meaning gives d).jobs
    ≡ sum_by (λ (x : Instance). count_by seat_counts x.seats) xs)

pub record IsCounted (gives : Giving) (d : Document) (past : History)
    (xs : Instances) : Type 0 where
  pub out : histories.out_count (meaning gives d) past
      ≡ sum_by (λ (x : Instance). seats_out x.seats) xs
  pub settled :
      length (filter (is_settled past) (meaning gives d).jobs)
      ≡ sum_by (λ (x : Instance). count_by (λ s. is_over s.stage) x.seats) xs

abbrev pub AreCounted : Type 0
AreCounted = InEveryForest (λ gives d levels past xs. IsCounted gives d past xs)

-- ---- names

abbrev pub NamesOfInstances : Type 0
NamesOfInstances =
    InEveryForest (λ gives d levels past xs.
    (ks : List (ℕ × ℕ)) → AreNumbered xs ks → AreNamesOfJobs gives d past (names_by xs ks))

abbrev pub JobsByNumbers : Type 0
JobsByNumbers =
    InEveryForest (λ gives d levels past xs.
    (ks : List (ℕ × ℕ)) → AreNumbered xs ks
    → (k i n : ℕ) (x : Instance) (s : Seat) (j : Job) → slice_get ks k ≡ Some (i, n)
    → IsJobAt gives d xs i n x s j
    → IsJobOfNumber gives d (names_by xs ks) k j)

-- each instance of xs is there under its number, of the same name and flow, with the same jobs in its seats
abbrev pub KeepsSpots : Instances → Instances → Type 0
KeepsSpots xs ys =
    (i : ℕ) (x : Instance) → IsAt xs i x
    → (y : Instance) × IsAt ys i y × (y.name ≡ x.name) × (y.flow ≡ x.flow)
    × ((n : ℕ) (s : Seat) → slice_get x.seats n ≡ Some s
    → (t : Seat) × (slice_get y.seats n ≡ Some t) × (t.step ≡ s.step) × (t.place ≡ s.place))

-- then the names of numbers stay: with every entry
abbrev pub NamesStay : Type 0
NamesStay =
    (xs ys : Instances) (ks : List (ℕ × ℕ)) → AreNumbered xs ks → KeepsSpots xs ys
    → names_by ys ks ≡ names_by xs ks

-- the flow of an instance is the one that its name leads to: so the steps of entries have their names
abbrev pub FlowsByNames : Type 0
FlowsByNames =
    InEveryForest (λ gives d levels past xs.
    (i : ℕ) (x : Instance) → IsAt xs i x → flow_of d.flows d.main x.name ≡ Some x.flow)
