-- What the view of every frame in a run says of the run.
use Rattle.std.specs.List.{list_any}
use Rattle.std.specs.Prelude.{◌≡◌, ◌||◌, ℕ, Bool, true, false, List, [], Some, map}
use Rattle.tv_lemmas.specs.Members.{Each, In}
use Rattle.tv_value.specs.Nested.{Place}
use Rattle.tv_value.specs.Orders.{named}
use Rattle.tv_value.specs.Values.{JobName, Name, Value, holds_fault}
use Rattle.tv_gate.specs.Outcomes.{Giving}
use Rattle.tv_flow.specs.Flows.{Document}
use Rattle.tv_strategy.specs.Origins.{plain}
use Rattle.tv_model.specs.instance.Steps.{spot}
use Rattle.tv_model.specs.instance.ByResults.{InstanceStep, PlacedJob, Results}
use Rattle.tv_model.specs.instance.Events as events
use Rattle.tv_model.specs.instance.Events.{Event, Extends, fault_set, gave, has_result, is_taken, took}
use Rattle.tv_model.specs.Instances.{given_of}
use Rattle.tv_model.specs.Jobs.{Job}
use Rattle.tv_model.specs.Levels.{Level, levels}
use Rattle.tv_model.specs.Meanings.{meaning}
use Rattle.tv_model.specs.Turns.{is_bounced}
use Rattle.tv_history.specs.Entries.{Entry, History, closed, ended, fault_passed, is_begun_entry, opened}
use Rattle.tv_history.specs.Histories.{can_end, can_settle, is_legal_after, is_ready, is_running, is_settled}
use Rattle.tv_framing.specs.Answers.{AreInputs, AreOutputs, CanSettle, IsReadyJob, NothingSettles, has_ended_now}
use Rattle.tv_framing.specs.Views.{AreOfDepth, InAll, View, steps_with}
use Rattle.tv_forest.specs.views.InRun.{IsInRun, IsJobThere, IsOfJob}

-- P holds of the view of every frame in every legal run of every accepted document
abbrev pub InEveryRun : (Giving → Document → History → JobName → (Name → ℕ) → View → Type 0)
    → Type 0
InEveryRun P =
    (gives : Giving) (d : Document) (past : History) (I : JobName) (levels : Name → ℕ) (v : View)
    → IsInRun gives d past I levels v → P gives d past I levels v

-- ---- which jobs there are

-- each known job is a job of the run
abbrev pub KnownJobsAreThere : Type 0
KnownJobsAreThere =
    InEveryRun (λ gives d past I levels v.
    (x : Name × Place) → In x v.jobs → (j : Job) × IsJobThere gives d I j x)

-- a job that was begun or is settled is known
abbrev pub BegunIsKnown : Type 0
BegunIsKnown =
    InEveryRun (λ gives d past I levels v.
    (x : Name × Place) (j : Job) → IsJobThere gives d I j x
    → (is_running past j || is_settled past j) ≡ true → In x v.jobs)

-- each job of the instance stands at a spot
abbrev pub JobsAreSomewhere : Type 0
JobsAreSomewhere =
    InEveryRun (λ gives d past I levels v.
    (j : Job) → In j (meaning gives d).jobs → j.instance ≡ I
    → (x : Name × Place) × IsJobThere gives d I j x)

-- ---- ready, begun and settled jobs

-- the job is ready in the run exactly where it is known and ready by the view
pub record IsReadyAsTold (gives : Giving) (d : Document) (past : History) (levels : Name → ℕ)
    (v : View)
    (j : Job) (x : Name × Place) : Type 0 where
  pub told : is_ready (meaning gives d) past j ≡ true → In x v.jobs × IsReadyJob levels v x
  pub ready : In x v.jobs → IsReadyJob levels v x → is_ready (meaning gives d) past j ≡ true

abbrev pub ReadyIsTold : Type 0
ReadyIsTold =
    InEveryRun (λ gives d past I levels v.
    (x : Name × Place) (j : Job) → IsJobThere gives d I j x
    → IsReadyAsTold gives d past levels v j x)

-- the job is settled where the view has its result, and was begun where the view says that it was taken
pub record IsBegunAsTold (past : History) (v : View) (j : Job) (x : Name × Place) : Type 0 where
  pub settled : is_settled past j ≡ has_result v.events x.0 x.1
  pub begun : list_any (is_begun_entry j.name) past ≡ is_taken v.events x.0 x.1

abbrev pub TakenIsRunning : Type 0
TakenIsRunning =
    InEveryRun (λ gives d past I levels v.
    (x : Name × Place) (j : Job) → IsJobThere gives d I j x → IsBegunAsTold past v j x)

-- ---- what jobs bind

-- the job is one of an instance by results that have what was told, and binds there what it binds in the run
pub record IsPlaced (I : JobName) (v : View) (j : Job) (x : Name × Place) : Type 0 where
  pub results : Results
  pub depths : AreOfDepth v I results
  pub extends : Extends results v.events
  pub step : InstanceStep
  pub is_step : In step (steps_with v I results)
  pub job : PlacedJob
  pub listed : In job step.jobs
  pub its_step : job.step ≡ x.0
  pub its_place : job.place ≡ x.1
  pub inputs : job.inputs ≡ j.inputs

-- so what is so of a placed job in all instances is so of the run's job
abbrev pub PlacedJobsAreJobs : Type 0
PlacedJobsAreJobs =
    InEveryRun (λ gives d past I levels v.
    (x : Name × Place) (j : Job) → IsJobThere gives d I j x → IsPlaced I v j x)

-- where k is job x, b says whether it binds a value that holds a fault
abbrev pub HoldsFaultAt : Name × Place → Bool → PlacedJob → Type 0
HoldsFaultAt x b k = k.step ≡ x.0 → k.place ≡ x.1 → b ≡ list_any (λ w. holds_fault w) k.inputs

-- the values that the job binds, and whether one holds a fault: then it is bounced, and else not
pub record IsBoundAsTold (v : View) (j : Job) (x : Name × Place) : Type 0 where
  pub values : (vs : List Value) → AreInputs v x vs → vs ≡ map plain j.inputs
  pub fault :
      (b : Bool)
      → InAll v (λ instance results fs. Each (λ (f : InstanceStep). Each (HoldsFaultAt x b) f.jobs)
      fs)
      → b ≡ list_any (λ w. holds_fault w) j.inputs
  pub bounced : list_any (λ w. holds_fault w) j.inputs ≡ is_bounced j.ending

abbrev pub InputsAreTold : Type 0
InputsAreTold =
    InEveryRun (λ gives d past I levels v.
    (x : Name × Place) (j : Job) → IsJobThere gives d I j x → IsBoundAsTold v j x)

-- ---- the instance

-- it can end where each of its steps has ended by the view
abbrev pub InstancesEndAsTold : Type 0
InstancesEndAsTold =
    InEveryRun (λ gives d past I levels v. can_end (meaning gives d) past I
    ≡ has_ended_now levels v)

-- of the main instance, on the document's inputs: what the view gives at its outputs is what the document means
abbrev pub OutputsAreMeant : Type 0
OutputsAreMeant =
    InEveryRun (λ gives d past I levels v.
    I ≡ [] → named d.main d.flows ≡ Some v.flow
    → given_of v.flow v.inputs ≡ given_of v.flow d.inputs
    → (vs : List Value) → AreOutputs v vs → vs ≡ map (λ o. plain o.1) (meaning gives d).outputs)

-- of the one that a job opened, on what the job binds: what the view gives there is what the job gives
abbrev pub OutputsAreResults : Type 0
OutputsAreResults =
    InEveryRun (λ gives d past I levels v.
    (j : Job) → In j (meaning gives d).jobs → j.name ≡ I → IsOfJob d j v
    → (vs : List Value) → AreOutputs v vs → vs ≡ j.result)

-- ---- lists and faults

-- the entry by which an event of the instance I comes; a job's are those where it opens a flow
abbrev pub entry_of : JobName → Event → Entry
entry_of I (gave s q vs) = ended (spot I s q)
entry_of I (events.closed s q n) = closed (spot I s q) n
entry_of I (fault_set s q d) = fault_passed (spot I s q)
entry_of I (took s q) = opened (spot I s q)

-- what can be settled by the view is legal in the run, and where nothing can, nothing of the instance can in the run
pub record SettlesAsTold (gives : Giving) (d : Document) (past : History) (I : JobName)
    (v : View) : Type 0 where
  pub settles : (e : Event) → CanSettle v e
      → is_legal_after gives (meaning gives d) past (entry_of I e) ≡ true
  pub nothing :
      NothingSettles v → (l : Level) → In l (levels (meaning gives d).steps) → l.instance ≡ I
      → can_settle (meaning gives d) past l ≡ false

abbrev pub LevelsSettleAsTold : Type 0
LevelsSettleAsTold = InEveryRun (λ gives d past I levels v. SettlesAsTold gives d past I v)
