-- The instances of a run together, by their numbers: those that are open, each with what its frame was told, and those that
-- have ended.
use Rattle.std.specs.List.{list_any}
use Rattle.std.specs.Option.{option_map_or}
use Rattle.std.specs.Prelude.{List, None, Option, Some, [], is_some, map, slice_get, suc, true, ℕ, ◌++◌, ◌<◌, ◌∷◌, ◌≡◌}
use Rattle.tv_lemmas.specs.Members.{In}
use Rattle.tv_value.specs.Orders as orders
use Rattle.tv_value.specs.Values.{JobName, Name}
use Rattle.tv_gate.specs.Outcomes.{Giving}
use Rattle.tv_flow.specs.Flows.{Document, Flow}
use Rattle.tv_flow.specs.Formed.{is_formed}
use Rattle.tv_check.specs.Plans.{IsAccepted}
use Rattle.tv_model.specs.Jobs.{Job}
use Rattle.tv_model.specs.Meanings.{meaning}
use Rattle.tv_history.specs.Entries.{History, is_opened_entry}
use Rattle.tv_history.specs.Histories.{is_legal}
use Rattle.tv_framing.specs.Views.{View}
use Rattle.tv_seats.specs.Seats.{Seat}
use Rattle.tv_seats.specs.declared.stage.Stage.TheVariants as stage
use Rattle.tv_forest.specs.views.InRun.{IsJobThere, IsOfJob}
use Rattle.tv_forest.specs.seats.Seated.{HasEnded, Sit, spot_of}

pub record Instance : Type 0 where
  pub name : JobName
  pub flow : Flow
  pub seats : List Seat
  -- what its frame was told, while it is open
  pub view : Option View

abbrev pub Instances : Type 0
Instances = List Instance

-- number i is x
abbrev pub IsAt : Instances → ℕ → Instance → Type 0
IsAt xs i x = slice_get xs i ≡ Some x

-- some instance has this name
pub record IsNamed (xs : Instances) (n : JobName) : Type 0 where
  pub number : ℕ
  pub instance : Instance
  pub there : IsAt xs number instance
  pub is_its : instance.name ≡ n

-- instance k is the open one of this name
pub record IsOpenAt (xs : Instances) (k : ℕ) (n : JobName) : Type 0 where
  pub instance : Instance
  pub there : IsAt xs k instance
  pub is_its : instance.name ≡ n
  pub is_open : is_some instance.view ≡ true

-- number 0 is the main one
pub record IsMain (d : Document) (x : Instance) : Type 0 where
  pub unnamed : x.name ≡ []
  pub is_flow : orders.named d.main d.flows ≡ Some x.flow
  pub inputs : (v : View) → x.view ≡ Some v → v.inputs ≡ d.inputs

module _ (gives : Giving) (d : Document) where
  -- the seat is that of the run's job j, of the instance x
  abbrev pub IsOfSeat : Instance → Seat → Job → Type 0
  IsOfSeat x s j = IsJobThere gives d x.name j (spot_of x.flow.steps s)

  -- job n of instance i is the run's job j, whose seat is s
  pub record IsJobAt (xs : Instances) (i n : ℕ) (x : Instance) (s : Seat) (j : Job) : Type 0 where
    pub instance : IsAt xs i x
    pub seat : slice_get x.seats n ≡ Some s
    pub job : IsOfSeat x s j

  -- instance i was opened by job n of an instance with a lesser number, whose seat says so as long as it is open
  pub record IsOpened (xs : Instances) (i : ℕ) (x : Instance) : Type 0 where
    pub outer : ℕ
    pub before : outer < i
    pub number : ℕ
    pub around : Instance
    pub seat : Seat
    pub job : Job
    pub is_job : IsJobAt xs outer number around seat job
    pub named : x.name ≡ job.name
    pub flow_name : Name
    pub opens : job.opens ≡ Some flow_name
    pub is_flow : orders.named flow_name d.flows ≡ Some x.flow
    pub while_open : (v : View) → x.view ≡ Some v → (seat.stage ≡ stage.Nested i) × IsOfJob d job v

  -- the levels are those of the steps of each flow
  module _ (levels : Flow → Name → ℕ) (past : History) where
    -- one that is open, or has ended
    abbrev pub Stays : Instance → Option View → Type 0
    Stays x (Some v) = (v.flow ≡ x.flow) × Sit gives d past x.name (levels x.flow) v x.seats
    Stays x None = HasEnded gives d past x.name x.flow x.seats

    -- so the instances of a run stand after this history
    pub record Stand (xs : Instances) : Type 0 where
      pub formed : is_formed d ≡ true
      pub accepted : IsAccepted d
      pub legal : is_legal gives (meaning gives d) past ≡ true
      pub main : (x : Instance) × IsAt xs 0 x × IsMain d x
      pub each : (i : ℕ) (x : Instance) → IsAt xs i x → Stays x x.view
      pub opened : (i : ℕ) (x : Instance) → IsAt xs (suc i) x → IsOpened xs (suc i) x
      -- a seat whose job's flow is open tells the instance's number
      pub nested :
          (i n k : ℕ) (x : Instance) (s : Seat) (j : Job)
          → IsJobAt xs i n x s j → s.stage ≡ stage.Nested k
          → IsOpenAt xs k j.name
      -- no two have one name
      pub apart : (i k : ℕ) (x y : Instance) → IsAt xs i x → IsAt xs k y → x.name ≡ y.name → i ≡ k
      -- each that was ever opened is there
      pub all :
          (j : Job) → In j (meaning gives d).jobs → list_any (is_opened_entry j.name) past ≡ true
          → IsNamed xs j.name

-- ---- numbers and names of jobs

-- job k of the run is a job of an instance: number n of instance i
abbrev pub name_of : Instances → ℕ × ℕ → JobName
name_of xs k =
    option_map_or (λ (x : Instance). option_map_or (λ s. x.name ++ spot_of x.flow.steps s ∷ [])
    (slice_get x.seats k.1) [])
    (slice_get xs k.0) []

-- each seat has one number
pub record AreNumbered (xs : Instances) (ks : List (ℕ × ℕ)) : Type 0 where
  pub seats :
      (a i n : ℕ) → slice_get ks a ≡ Some (i, n)
      → (x : Instance) × (s : Seat) × IsAt xs i x × (slice_get x.seats n ≡ Some s)
  pub all :
      (i n : ℕ) (x : Instance) (s : Seat) → IsAt xs i x → slice_get x.seats n ≡ Some s
      → (a : ℕ) × (slice_get ks a ≡ Some (i, n))
  pub apart : (a b i n : ℕ) → slice_get ks a ≡ Some (i, n) → slice_get ks b ≡ Some (i, n) → a ≡ b

abbrev pub names_by : Instances → List (ℕ × ℕ) → List JobName
names_by xs ks = map (name_of xs) ks

-- an instance tells the run's numbers of its jobs
abbrev pub TellsNumbers : List (ℕ × ℕ) → ℕ → List ℕ → Type 0
TellsNumbers ks i numbers = (n k : ℕ) → slice_get numbers n ≡ Some k → slice_get ks k ≡ Some (i, n)
