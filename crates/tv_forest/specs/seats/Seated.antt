-- The seats of an instance's known jobs, each at the stage where its job stands in the run.
use Rattle.std.specs.List.{list_any}
use Rattle.std.specs.Option.{option_map_or}
use Rattle.std.specs.Prelude.{Bool, List, None, Some, [], false, is_some, map, slice_get, true, ℕ, ◌≡◌}
use Rattle.tv_lemmas.specs.Members.{In}
use Rattle.tv_value.specs.Nested.{Place}
use Rattle.tv_value.specs.Values.{JobName, Name}
use Rattle.tv_gate.specs.Outcomes.{Giving}
use Rattle.tv_flow.specs.Flows.{Document, Flow, Step}
use Rattle.tv_model.specs.Jobs.{Job}
use Rattle.tv_model.specs.Meanings.{meaning}
use Rattle.tv_history.specs.Entries.{History, is_ended_entry, is_out}
use Rattle.tv_history.specs.Histories.{has_open_instance, is_ask, is_legal, is_running, is_settled, next_ask}
use Rattle.tv_history.specs.activities.Activities.{last_activity}
use Rattle.tv_framing.specs.Views.{View}
use Rattle.tv_seats.specs.Seats.{Seat}
use Rattle.tv_seats.specs.declared.stage.Stage.{Stage}
use Rattle.tv_seats.specs.declared.stage.Stage.TheVariants as stage
use Rattle.tv_forest.specs.views.InRun.{IsInRun, IsJobThere}

-- the next try of the job is this one
abbrev pub IsNextTry : History → Job → ℕ → ℕ → Type 0
IsNextTry past j a t = option_map_or (is_ask a t) (next_ask past j) false ≡ true

-- nothing is left to ask, and the flow of this activity comes next
pub record IsNextFlow (past : History) (j : Job) (a : ℕ) : Type 0 where
  pub no_ask : next_ask past j ≡ None
  pub opens : is_some j.opens ≡ true
  pub activity : a ≡ last_activity j.asks

-- the job isn't settled; whether it runs, a try of it is out, its flow is open
pub record GoesAs (past : History) (j : Job) (running out nested : Bool) : Type 0 where
  pub unsettled : is_settled past j ≡ false
  pub runs : is_running past j ≡ running
  pub is_out : is_out past j.name ≡ out
  pub inside : has_open_instance past j ≡ nested

-- the stage tells where the job stands
abbrev pub IsStage : History → Job → Stage → Type 0
IsStage past j stage.Waiting = GoesAs past j false false false
IsStage past j (stage.Out a t) = GoesAs past j true true false × IsNextTry past j a t
IsStage past j (stage.Idle a t) = GoesAs past j true false false × IsNextTry past j a t
IsStage past j (stage.Aside a) = GoesAs past j true false false × IsNextFlow past j a
IsStage past j (stage.Nested i) = GoesAs past j true false true
IsStage past j stage.Settled = (is_settled past j ≡ true) × (is_out past j.name ≡ false)

-- the spot of a seat: the name of its step and its place
abbrev pub spot_of : List (Name × Step) → Seat → Name × Place
spot_of steps s = (option_map_or (λ t. t.0) (slice_get steps s.step) [], s.place)

-- each seat is at a step
abbrev pub AreAtSteps : List (Name × Step) → List Seat → Type 0
AreAtSteps steps ss = (n : ℕ) (s : Seat) → slice_get ss n ≡ Some s → (t : Name × Step)
    × (slice_get steps s.step ≡ Some t)

-- each known job of an open instance has the seat of its number
pub record Sit (gives : Giving) (d : Document) (past : History) (I : JobName) (levels : Name → ℕ)
    (v : View)
    (ss : List Seat) : Type 0 where
  pub in_run : IsInRun gives d past I levels v
  pub jobs : map (spot_of v.flow.steps) ss ≡ v.jobs
  pub steps : AreAtSteps v.flow.steps ss
  pub stages :
      (n : ℕ) (s : Seat) (j : Job) → slice_get ss n ≡ Some s
      → IsJobThere gives d I j (spot_of v.flow.steps s) → IsStage past j s.stage

-- some seat of the instance is the job's
pub record HasSeatIn (gives : Giving) (d : Document) (I : JobName) (flow : Flow) (ss : List Seat)
    (j : Job) : Type 0 where
  pub number : ℕ
  pub seat : Seat
  pub there : slice_get ss number ≡ Some seat
  pub is_its : IsJobThere gives d I j (spot_of flow.steps seat)

-- of an instance that has ended all jobs have seats, and are settled
pub record HasEnded (gives : Giving) (d : Document) (past : History) (I : JobName) (flow : Flow)
    (ss : List Seat)
    : Type 0 where
  pub legal : is_legal gives (meaning gives d) past ≡ true
  pub ended : list_any (is_ended_entry I) past ≡ true
  pub steps : AreAtSteps flow.steps ss
  pub apart :
      (n k : ℕ) (s t : Seat) → slice_get ss n ≡ Some s → slice_get ss k ≡ Some t
      → spot_of flow.steps s ≡ spot_of flow.steps t → n ≡ k
  pub jobs : (n : ℕ) (s : Seat) → slice_get ss n ≡ Some s → (j : Job)
      × IsJobThere gives d I j (spot_of flow.steps s)
  pub all : (j : Job) → In j (meaning gives d).jobs → j.instance ≡ I → HasSeatIn gives d I flow ss j
  pub settled : (n : ℕ) (s : Seat) → slice_get ss n ≡ Some s → s.stage ≡ stage.Settled
  pub stages :
      (n : ℕ) (s : Seat) (j : Job) → slice_get ss n ≡ Some s
      → IsJobThere gives d I j (spot_of flow.steps s) → IsStage past j stage.Settled
