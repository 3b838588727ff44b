-- How idle jobs stay those of a frame: one more job is known, one is taken or gives its result, or something else is told.
use Rattle.std.specs.Prelude.{◌≡◌, ℕ, ◌<◌, Bool, false, List, [], ◌∷◌, ◌++◌, length, slice_get, slice_set, Some}
use Rattle.tv_value.specs.Nested.{Place}
use Rattle.tv_value.specs.Values.{Name}
use Rattle.tv_flow.specs.Flows.{Step}
use Rattle.tv_idle.specs.Idles.{StepIdle, of_step, with_idle, without}
use Rattle.tv_model.specs.instance.Events as events
use Rattle.tv_model.specs.instance.Events.{Event, fault_set, gave, gives_at, has_result, is_taken, takes_at, took}
use Rattle.tv_framing.specs.Answers.{numbered}
use Rattle.tv_framing.specs.Views.{View}
use Rattle.tv_framing.specs.engine.WiredFlows.{IsWired}
use Rattle.tv_framing.specs.turns.IdleJobs.{AreIdleOf}

abbrev pub with_known : View → Name × Place → View
with_known v x = record v { jobs = v.jobs ++ x ∷ [] }

abbrev pub with_told : View → Event → View
with_told v e = record v { events = e ∷ v.events }

-- the job there is taken or gives its result
abbrev pub IsOfJob : Event → Name → Place → Type 0
IsOfJob (gave t r vs) s q = (t ≡ s) × (r ≡ q)
IsOfJob (events.closed t r n) s q = ⊥
IsOfJob (fault_set t r e) s q = ⊥
IsOfJob (took t r) s q = (t ≡ s) × (r ≡ q)

-- no idle job is taken by it or gives its result
abbrev pub LeavesIdle : View → Event → Type 0
LeavesIdle v e =
    (s : Name) (q : Place) → is_taken v.events s q ≡ false → has_result v.events s q ≡ false
    → (takes_at s q e ≡ false) × (gives_at s q e ≡ false)

abbrev pub NoneAreIdleAtFirst : Type 0
NoneAreIdleAtFirst =
    (v : View) → v.jobs ≡ [] → (ss : List StepIdle)
    → ((k : ℕ) → ((of_step ss k).good ≡ []) × ((of_step ss k).faulty ≡ [])) → AreIdleOf v ss

-- a job of the step of that number becomes known
abbrev pub AreIdleWithOneMore : Type 0
AreIdleWithOneMore =
    (v : View) → IsWired v.flow → (ss : List StepIdle) → AreIdleOf v ss
    → (k : ℕ) (s : Name × Step) → slice_get v.flow.steps k ≡ Some s → k < length ss
    → (q : Place) → is_taken v.events s.0 q ≡ false → has_result v.events s.0 q ≡ false
    → (faulty : Bool)
    → AreIdleOf (with_known v (s.0, q))
    (slice_set ss k (with_idle faulty (length v.jobs, q) (of_step ss k)))

-- the job of that number, and no other at its place, is taken or gives its result
abbrev pub AreIdleWithoutOne : Type 0
AreIdleWithoutOne =
    (v : View) → IsWired v.flow → (ss : List StepIdle) → AreIdleOf v ss
    → (k : ℕ) (s : Name × Step) → slice_get v.flow.steps k ≡ Some s → k < length ss
    → (n : ℕ) (q : Place) → numbered v n ≡ Some (s.0, q)
    → ((m : ℕ) → numbered v m ≡ Some (s.0, q) → m ≡ n)
    → (e : Event) → IsOfJob e s.0 q
    → AreIdleOf (with_told v e) (slice_set ss k (without n (of_step ss k)))

-- something else is told
abbrev pub AreIdleStill : Type 0
AreIdleStill =
    (v : View) (ss : List StepIdle) → AreIdleOf v ss → (e : Event) → LeavesIdle v e
    → AreIdleOf (with_told v e) ss
