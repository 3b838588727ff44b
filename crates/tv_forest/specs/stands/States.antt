-- Laws of where the jobs of seats stand.
use Rattle.std.specs.Prelude.{Bool, List, None, Some, [], false, filter, find, slice_get, true, ℕ, ◌≡◌}
use Rattle.tv_lemmas.specs.Members.{In}
use Rattle.tv_value.specs.Orders.{same_job}
use Rattle.tv_value.specs.Values.{JobName, Name}
use Rattle.tv_gate.specs.Outcomes.{Giving}
use Rattle.tv_flow.specs.Flows.{Document, Step}
use Rattle.tv_dispatch.specs.Jobs.{Ask}
use Rattle.tv_model.specs.instance.Ranks.{ranked}
use Rattle.tv_model.specs.instance.ByResults.{last_first}
use Rattle.tv_model.specs.instance.Counting.{have_ended_by}
use Rattle.tv_model.specs.Jobs.{Job}
use Rattle.tv_model.specs.Meanings.{meaning}
use Rattle.tv_history.specs.Entries.{History, is_out}
use Rattle.tv_history.specs.Histories.{has_open_instance, is_ready, is_running, is_settled, next_ask}
use Rattle.tv_history.specs.activities.Activities.{last_activity}
use Rattle.tv_framing.specs.Answers.{after_of}
use Rattle.tv_framing.specs.Views.{View}
use Rattle.tv_model.specs.JobOrder.{Apart}
use Rattle.tv_seats.specs.declared.stage.Stage.{Stage}
use Rattle.tv_seats.specs.declared.stage.Stage.TheVariants as stage
use Rattle.tv_forest.specs.stands.Seats.{AtEachSeat, is_over}

-- ---- stages

-- the job's next try is attempt t at activity a
pub record IsTry (past : History) (j : Job) (a t : ℕ) : Type 0 where
  pub ask : Ask
  pub is_next : next_ask past j ≡ Some ask
  pub activity : ask.activity ≡ a
  pub attempt : ask.attempt ≡ t

-- a job of the step named s waits: it is ready once the steps have ended that its step runs after
pub record Waits (gives : Giving) (d : Document) (past : History) (levels : Name → ℕ) (v : View)
    (s : Name) (j : Job) : Type 0 where
  pub unsettled : is_settled past j ≡ false
  pub running : is_running past j ≡ false
  pub out : is_out past j.name ≡ false
  pub nothing_open : has_open_instance past j ≡ false
  pub ready :
      is_ready (meaning gives d) past j
      ≡ have_ended_by v.events levels (last_first (ranked v.flow.steps) []) (after_of v s)

-- a job runs, and its next try is out or isn't
pub record Runs (past : History) (j : Job) (a t : ℕ) (is_out_now : Bool) : Type 0 where
  pub unsettled : is_settled past j ≡ false
  pub running : is_running past j ≡ true
  pub out : is_out past j.name ≡ is_out_now
  pub nothing_open : has_open_instance past j ≡ false
  pub next : IsTry past j a t

-- a job runs, and its next try is none, but the flow of this activity: what callers are told of it is
-- attempt 0 there
pub record RunsAside (past : History) (j : Job) (a : ℕ) : Type 0 where
  pub unsettled : is_settled past j ≡ false
  pub running : is_running past j ≡ true
  pub out : is_out past j.name ≡ false
  pub nothing_open : has_open_instance past j ≡ false
  pub none_next : next_ask past j ≡ None
  pub after : a ≡ last_activity j.asks

-- its flow is open
pub record RunsInside (past : History) (j : Job) : Type 0 where
  pub unsettled : is_settled past j ≡ false
  pub running : is_running past j ≡ true
  pub out : is_out past j.name ≡ false
  pub open_inside : has_open_instance past j ≡ true

-- what a stage tells
abbrev pub StandsAt :
    Giving → Document → History → (Name → ℕ) → View → Name → Job → Stage → Type 0
StandsAt gives d past levels v s j stage.Waiting = Waits gives d past levels v s j
StandsAt gives d past levels v s j (stage.Out a t) = Runs past j a t true
StandsAt gives d past levels v s j (stage.Idle a t) = Runs past j a t false
StandsAt gives d past levels v s j (stage.Aside a) = RunsAside past j a
StandsAt gives d past levels v s j (stage.Nested i) = RunsInside past j
StandsAt gives d past levels v s j stage.Settled = is_settled past j ≡ true

pub record IsStateOf (gives : Giving) (d : Document) (past : History) (levels : Name → ℕ) (v : View)
    (s : Name) (j : Job) (x : Stage) : Type 0 where
  pub settled : is_settled past j ≡ is_over x
  pub stands : StandsAt gives d past levels v s j x

abbrev pub StatesBySeats : Type 0
StatesBySeats =
    AtEachSeat (λ gives d past I levels v ss n s j.
    (t : Name × Step) → slice_get v.flow.steps s.step ≡ Some t
    → IsStateOf gives d past levels v t.0 j s.stage)

-- ---- names

-- names of jobs, which differ; those of all ready ones are among them
pub record AreNamesOfJobs (gives : Giving) (d : Document) (past : History) (names : List JobName)
    : Type 0 where
  pub distinct : Apart (λ n. n) names
  pub jobs : (n : JobName) → In n names → (j : Job) × In j (meaning gives d).jobs × (j.name ≡ n)
  pub ready :
      (j : Job) → In j (filter (is_ready (meaning gives d) past) (meaning gives d).jobs)
      → In j.name names

-- the name of a number is its job's, and the job is found by its name
pub record IsJobOfNumber (gives : Giving) (d : Document) (names : List JobName) (n : ℕ)
    (j : Job) : Type 0
  where
    pub named : slice_get names n ≡ Some j.name
    pub found : find (λ i. same_job j.name i.name) (meaning gives d).jobs ≡ Some j
