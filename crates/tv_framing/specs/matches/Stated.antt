-- Laws of what a frame may draw from the outcomes of its matchers, whatever isn't told of its
-- instance.
use Rattle.std.specs.Prelude.{◌≡◌, ℕ, ◌++◌, false, List, [], ◌∷◌, map, IsPermutation}
use Rattle.tv_lemmas.specs.Members.{Each, In}
use Rattle.tv_value.specs.Nested.{Place}
use Rattle.tv_value.specs.Values.{ErrorDoc, Name, Value}
use Rattle.tv_flow.specs.Flows.{Flow, Step}
use Rattle.tv_strategy.specs.Measures.{leaf_names}
use Rattle.tv_strategy.specs.Origins.{plain}
use Rattle.tv_model.specs.instance.Ranks.{ranked}
use Rattle.tv_model.specs.instance.Steps.{declared_depths, strategy_of}
use Rattle.tv_check.specs.Ports.{mismatches}
use Rattle.tv_matching.specs.Items.{known_items}
use Rattle.tv_matching.specs.Matchers.{CanTellAll, Matching, Outcome, fault_at, list_at}
use Rattle.tv_matching.specs.Told.{Told, told_leaf}
use Rattle.tv_intake.specs.Sorting.{others_among}
use Rattle.tv_model.specs.instance.ByResults.{InstanceStep, PlacedJob}
use Rattle.tv_model.specs.instance.Events as events
use Rattle.tv_model.specs.instance.Events.{Event, Events, fault_set, gave, has_level, has_result, known_by, took}
use Rattle.tv_model.specs.RightDepths.{HaveTheseDepths}
use Rattle.tv_framing.specs.Answers.{AreInputs, CanSettle, NothingSettles}
use Rattle.tv_framing.specs.Frames.{AreNewWith, IsFrame, known_jobs, with_event}
use Rattle.tv_framing.specs.Views.{AreGiven, InAll, View}
use Rattle.tv_framing.specs.keeping.NextEvents.{IsNextEvent}
use Rattle.tv_framing.specs.keeping.Told.{StepIsTold}
use Rattle.tv_framing.specs.matches.Items.{IsFaultOf, PassesFaultOf, StandAtParts, standing, unnamed}
use Rattle.tv_framing.specs.matches.Jobs.{all_jobs}
use Rattle.tv_framing.specs.matches.Steps.{AreStepsTold, IsOfRankedFlow, IsStepAt, IsStepTold, LeavesDiffer}
use Rattle.tv_framing.specs.matches.Waiting.{IsLeft, waiting_of}

-- P holds of the step of that name
abbrev pub OfStep : Name → List InstanceStep → (InstanceStep → Type 0) → Type 0
OfStep s fs P = (f : InstanceStep) → In f fs → f.step.step ≡ s → P f

-- a view stays one of its flow with each event
abbrev pub FlowsStay : Type 0
FlowsStay =
    (flows : List (Name × Flow)) (levels : Name → ℕ) (v : View) → IsOfRankedFlow flows levels v
    → (e : Event) (new : List (Name × Place)) → IsOfRankedFlow flows levels (with_event v e new)

-- ---- what comes out

-- the outcomes are the known items of the step's iteration, by their places and kinds
abbrev pub OutcomesAreKnown : Type 0
OutcomesAreKnown =
    (flows : List (Name × Flow)) (levels : Name → ℕ) (v : View) → IsOfRankedFlow flows levels v
    → (n : ℕ) (s : Name × Step) → IsStepAt v n s → (ts : List Told) (os : List Outcome)
    → IsStepTold v s ts os
    → InAll v (λ instance results fs. OfStep s.0 fs (λ f.
    IsPermutation (map unnamed os)
    (map standing (known_items (known_by instance v.events) f.step.iteration))))

-- and a passed fault is the one at its leaf's part of the place, where no two leaves have one name
abbrev pub PassedFaultsStand : Type 0
PassedFaultsStand =
    (flows : List (Name × Flow)) (levels : Name → ℕ) (v : View) → IsOfRankedFlow flows levels v
    → (n : ℕ) (s : Name × Step) → IsStepAt v n s → LeavesDiffer s.1
    → (ts : List Told) (os : List Outcome) → IsStepTold v s ts os → (q : Place) (l : ℕ)
    → In (fault_at q l) os
    → InAll v (λ instance results fs. OfStep s.0 fs (λ f.
    PassesFaultOf v.flow s.1 (known_by instance v.events) f q l))

-- ---- tellings

-- what was told may be told in any order
abbrev pub StepsAreToldInAnyOrder : Type 0
StepsAreToldInAnyOrder =
    (v : View) (s : Name) (ts us : List Told) → IsPermutation ts us → StepIsTold v s ts
    → StepIsTold v s us

-- and what comes out may be taken in any order
abbrev pub OutcomesComeInAnyOrder : Type 0
OutcomesComeInAnyOrder =
    (v : View) (s : Name × Step) (ts us : List Told) (os ps : List Outcome)
    → IsPermutation ts us → IsPermutation os ps → IsStepTold v s ts os → IsStepTold v s us ps

-- where more tellings name a port each, and with them each port of the step was told what is known
-- of its walk, a matcher that was told the others can be told these
abbrev pub NextCanBeTold : Type 0
NextCanBeTold =
    (flows : List (Name × Flow)) (levels : Name → ℕ) (v : View) → IsOfRankedFlow flows levels v
    → AreGiven (ranked v.flow.steps) v.events
    → (n : ℕ) (s : Name × Step) → IsStepAt v n s → (ts more : List Told)
    → StepIsTold v s.0 (ts ++ more)
    → Each (λ t. In (told_leaf t) (leaf_names (strategy_of s.1))) more
    → (m : Matching) → m.mismatch ≡ mismatches v.flow s.1 → IsPermutation m.told ts
    → CanTellAll m more

-- ---- jobs

-- the known jobs are those among the outcomes
abbrev pub KnownJobsAreMatched : Type 0
KnownJobsAreMatched =
    (flows : List (Name × Flow)) (levels : Name → ℕ) (v : View) → IsOfRankedFlow flows levels v
    → (ts : ℕ → List Told) (os : ℕ → List Outcome) → AreStepsTold v ts os
    → IsPermutation v.jobs (all_jobs v.flow os)
    → InAll v (λ instance results fs.
    IsPermutation v.jobs (known_jobs (known_by instance v.events) fs))

-- so before any event a frame with these jobs is one
abbrev pub FramesStart : Type 0
FramesStart =
    (flows : List (Name × Flow)) (levels : Name → ℕ) (v : View) → IsOfRankedFlow flows levels v
    → (ts : ℕ → List Told) (os : ℕ → List Outcome) → AreStepsTold v ts os
    → IsPermutation v.jobs (all_jobs v.flow os) → v.events ≡ [] → IsFrame v

-- with an event: the matchers were told this before and that after it, and bring so much more
pub record IsBrought (flows : List (Name × Flow)) (levels : Name → ℕ) (v : View) (e : Event)
    (told after : ℕ → List Told) (os brought : ℕ → List Outcome) : Type 0 where
  pub next : IsNextEvent flows levels v e
  pub of_flow : IsOfRankedFlow flows levels v
  pub before_it : AreStepsTold v told os
  pub after_it : AreStepsTold (with_event v e []) after (λ n. os n ++ brought n)

-- then the jobs among what they bring are those that become known, and the frame stays one
abbrev pub NewJobsAreBrought : Type 0
NewJobsAreBrought =
    (flows : List (Name × Flow)) (levels : Name → ℕ) (v : View) (e : Event)
    (told after : ℕ → List Told) (os brought : ℕ → List Outcome)
    → IsBrought flows levels v e told after os brought
    → (new : List (Name × Place)) → IsPermutation new (all_jobs v.flow brought)
    → AreNewWith v e new × IsFrame (with_event v e new)

-- a known job may give values of the declared depths, once
abbrev pub GivenGoesOn : Type 0
GivenGoesOn =
    (flows : List (Name × Flow)) (levels : Name → ℕ) (v : View) → IsOfRankedFlow flows levels v
    → AreGiven (ranked v.flow.steps) v.events
    → (n : ℕ) (s : Name × Step) → IsStepAt v n s → (q : Place) (vs : List Value)
    → HaveTheseDepths (declared_depths s.1) vs → has_result v.events s.0 q ≡ false
    → AreGiven (ranked v.flow.steps) (gave s.0 q vs ∷ v.events)

-- ---- what jobs bind

-- of each port what stands in its value at the port's part of the job's place
abbrev pub JobsBindParts : Type 0
JobsBindParts =
    (flows : List (Name × Flow)) (levels : Name → ℕ) (v : View) → IsOfRankedFlow flows levels v
    → (n : ℕ) (s : Name × Step) → IsStepAt v n s
    → InAll v (λ instance results fs. OfStep s.0 fs (λ f.
    Each (λ (k : PlacedJob). StandAtParts v.flow s.1 f k.place (map plain k.inputs)) f.jobs))

-- so values that stand there whatever isn't told are the job's inputs
abbrev pub PartsAreInputs : Type 0
PartsAreInputs =
    (flows : List (Name × Flow)) (levels : Name → ℕ) (v : View) → IsOfRankedFlow flows levels v
    → (n : ℕ) (s : Name × Step) → IsStepAt v n s → (q : Place) (vs : List Value)
    → InAll v (λ instance results fs. OfStep s.0 fs (λ f. StandAtParts v.flow s.1 f q vs))
    → AreInputs v (s.0, q) vs

-- ---- lists and faults

-- a list of which nothing was told can be closed
abbrev pub WaitingListsCanSettle : Type 0
WaitingListsCanSettle =
    (flows : List (Name × Flow)) (levels : Name → ℕ) (v : View) → IsOfRankedFlow flows levels v
    → (n : ℕ) (s : Name × Step) → IsStepAt v n s → (ts : List Told) (os : List Outcome)
    → IsStepTold v s ts os
    → (q : Place) (m : ℕ) → In (list_at q m) os → has_level v.events s.0 q ≡ false
    → CanSettle v (events.closed s.0 q m)

-- a passed fault of which nothing was told can be set: the one that stands at its leaf's part of
-- the place, whatever isn't told
abbrev pub WaitingFaultsCanSettle : Type 0
WaitingFaultsCanSettle =
    (flows : List (Name × Flow)) (levels : Name → ℕ) (v : View) → IsOfRankedFlow flows levels v
    → (n : ℕ) (s : Name × Step) → IsStepAt v n s → LeavesDiffer s.1
    → (ts : List Told) (os : List Outcome) → IsStepTold v s ts os
    → (q : Place) (l : ℕ) → In (fault_at q l) os → has_level v.events s.0 q ≡ false
    → (e : ErrorDoc)
    → InAll v (λ instance results fs. OfStep s.0 fs (λ f. IsFaultOf v.flow s.1 f q l e))
    → CanSettle v (fault_set s.0 q e)

-- where nothing waits, nothing can be settled
abbrev pub NothingSettlesWhereNothingWaits : Type 0
NothingSettlesWhereNothingWaits =
    (flows : List (Name × Flow)) (levels : Name → ℕ) (v : View) → IsOfRankedFlow flows levels v
    → (ts : ℕ → List Told) (os : ℕ → List Outcome) → AreStepsTold v ts os
    → ((n : ℕ) (s : Name × Step) → IsStepAt v n s → waiting_of v.events s.0 (os n) ≡ [])
    → NothingSettles v

-- what waits after an event is what is left, and the lists and faults that are brought
abbrev pub WaitingGoesOn : Type 0
WaitingGoesOn =
    (flows : List (Name × Flow)) (levels : Name → ℕ) (v : View) (e : Event)
    (told after : ℕ → List Told) (os brought : ℕ → List Outcome)
    → IsBrought flows levels v e told after os brought
    → (n : ℕ) (s : Name × Step) → IsStepAt v n s
    → (waiting left : List Outcome) → IsPermutation waiting (waiting_of v.events s.0 (os n))
    → IsLeft e s.0 waiting left
    → IsPermutation (left ++ others_among (brought n))
    (waiting_of (e ∷ v.events) s.0 (os n ++ brought n))

-- before any event all wait
abbrev pub AllWaitAtFirst : Type 0
AllWaitAtFirst = (s : Name) (os : List Outcome) → waiting_of [] s os ≡ others_among os

-- a job that is taken changes nothing of that
abbrev pub TakingLeavesWaiting : Type 0
TakingLeavesWaiting =
    (es : Events) (t s : Name) (q : Place) (os : List Outcome)
    → waiting_of (took t q ∷ es) s os ≡ waiting_of es s os

-- nor does the order in which what comes out is taken
abbrev pub WaitingInAnyOrder : Type 0
WaitingInAnyOrder =
    (es : Events) (s : Name) (os ps : List Outcome) → IsPermutation os ps
    → IsPermutation (waiting_of es s os) (waiting_of es s ps)
