-- Laws of the instances of a meaning, and of what a history says of one of them.
use Rattle.std.specs.List.{list_all}
use Rattle.std.specs.Prelude.{◌≡◌, ℕ, true, false, List, [], ◌∷◌, Some, map}
use Rattle.tv_lemmas.specs.Members.{Each}
use Rattle.tv_value.specs.Nested.{Place, at, note}
use Rattle.tv_value.specs.Values.{ErrorDoc, JobName, Name, Value}
use Rattle.tv_gate.specs.Outcomes.{Giving}
use Rattle.tv_flow.specs.Flows.{Flow, Step}
use Rattle.tv_strategy.specs.Iterations.{Iteration}
use Rattle.tv_strategy.specs.Levels.{HasLevels}
use Rattle.tv_strategy.specs.Origins.{Origin}
use Rattle.tv_strategy.specs.Sources.{AtNodes}
use Rattle.tv_model.specs.instance.Delivered.{Delivered}
use Rattle.tv_model.specs.instance.Ranks.{ranked}
use Rattle.tv_model.specs.instance.Steps.{spot}
use Rattle.tv_model.specs.instance.ByResults.{InstanceStep, Results, steps_by, steps_from_last}
use Rattle.tv_model.specs.instance.Counting.{have_ended_by, whole_by}
use Rattle.tv_model.specs.instance.Endings.{IsOwn, have_ended}
use Rattle.tv_model.specs.instance.Events as events
use Rattle.tv_model.specs.instance.Events.{Event, Events, event_place, fault_set, gave, has_level, known_by, took}
use Rattle.tv_model.specs.instance.Fitting.{FitStep}
use Rattle.tv_model.specs.instance.Legality.{AreLegal, IsLegalNext}
use Rattle.tv_model.specs.instance.OneEvent.{Rises}
use Rattle.tv_model.specs.instance.OwnDepths.{AllJobsGive, AreLevels}
use Rattle.tv_model.specs.instance.Readiness.{ends_by, ready_by, settles_by}
use Rattle.tv_model.specs.instance.Wholeness.{is_whole}
use Rattle.tv_model.specs.Agreeing.{FlowAgrees, InputsHave}
use Rattle.tv_model.specs.Instances.{given_of}
use Rattle.tv_model.specs.RightDepths.{AreRight}
use Rattle.tv_model.specs.Instances.{steps_made}
use Rattle.tv_model.specs.Jobs.{Job}
use Rattle.tv_model.specs.Levels.{Level, level_at}
use Rattle.tv_model.specs.Made.{Meaning}
use Rattle.tv_history.specs.Entries.{Entry, History, closed, fault_passed, handed_out, opened, recalled}
use Rattle.tv_history.specs.Histories.{can_end, can_settle, is_legal_after, is_open, is_ready}
use Rattle.tv_framing.specs.instances.InHistory.{AreStepsOf, Finds, IsJobAt, IsLevelAt, IsPartOf, IsStepHere, Settles, SettlesNot, StaysSettled, TellsNothing}
use Rattle.tv_framing.specs.instances.OwnNodes.{NodesHave}
use Rattle.tv_framing.specs.instances.OwnResults.{AllMadeGive, outside_by_results, outside_of_made, results_of}

-- ---- instances of a meaning

-- an instance of a meaning has the steps and jobs that the results of its own jobs give, whatever the services are
abbrev pub StepsAreByOwnResults : Type 0
StepsAreByOwnResults =
    (gives : Giving) (inside : Name → JobName → List (Name × Value) → Meaning) (instance : JobName)
    (flow : Flow)
    (vs : List (Name × Value))
    → let made = steps_made gives inside instance (given_of flow vs) [] (ranked flow.steps) in
    let results = results_of instance made in
    map outside_of_made made
    ≡ map (outside_by_results instance)
    (steps_by instance results (given_of flow vs) [] (ranked flow.steps))

-- these results are of the declared depths, where the jobs as they are made give values of these
abbrev pub OwnResultsAreOfDepth : Type 0
OwnResultsAreOfDepth =
    (gives : Giving) (inside : Name → JobName → List (Name × Value) → Meaning) (instance : JobName)
    (flow : Flow)
    (vs : List (Name × Value))
    → AllMadeGive gives inside instance (given_of flow vs) [] (ranked flow.steps)
    → let made = steps_made gives inside instance (given_of flow vs) [] (ranked flow.steps) in
    AllJobsGive instance (results_of instance made) (given_of flow vs) [] (ranked flow.steps)

-- every node that its steps have or wait for is the instance's own, or known from the start, where those that it is given are
abbrev pub NodesAreOwn : Type 0
NodesAreOwn =
    (instance : JobName) (results : Results) (given : List (Name × Delivered))
    (ss : List (Name × Step))
    → Each (λ d. AtNodes (λ o. IsOwn instance o.known) d.1.value) given
    → Each (NodesHave (λ o. IsOwn instance o.known)) (steps_by instance results given [] ss)

-- its iteration has these levels, and each output its delivered depth
pub record HasItsLevels (levels : Name → ℕ) (f : InstanceStep) : Type 0 where
  pub levels_told : HasLevels f.step.iteration (levels f.step.step)
  pub outputs : AreRight f.step.outputs

-- so it is of every step of an instance of a flow whose depths agree, with the levels that these tell, whatever results of the
-- declared depths its jobs give
abbrev pub StepsHaveTheirLevels : Type 0
StepsHaveTheirLevels =
    (flows : List (Name × Flow)) (flow : Flow) → FlowAgrees flows flow
    → (vs : List (Name × Value)) → InputsHave flow.inputs vs
    → (instance : JobName) (results : Results)
    → AllJobsGive instance results (given_of flow vs) [] (ranked flow.steps)
    → (levels : Name → ℕ) → AreLevels levels flow.inputs [] (ranked flow.steps)
    → Each (HasItsLevels levels)
    (steps_by instance results (given_of flow vs) [] (ranked flow.steps))

-- ---- events alone

-- an event makes known what is of its step and place, and nothing else
abbrev pub EventsRise : Type 0
EventsRise =
    (instance : JobName) (e : Event) (es : Events) (s : Name)
    → Rises (spot instance s) (known_by instance es) (known_by instance (e ∷ es)) (event_place e)

-- the events fit the step, whose iteration has the levels that are told
pub record IsCounted (es : Events) (levels : Name → ℕ) (f : InstanceStep) : Type 0 where
  pub fit : FitStep f es
  pub counted : HasLevels f.step.iteration (levels f.step.step)

-- then it is whole where it is by counting events
abbrev pub WholeIsByEvents : Type 0
WholeIsByEvents =
    (instance : JobName) (es : Events) (levels : Name → ℕ) (f : InstanceStep)
    → IsCounted es levels f
    → is_whole (spot instance f.step.step) (known_by instance es) [] f.step.iteration
    ≡ whole_by es f.step.step (levels f.step.step) []

-- and the steps that are named have ended where they have by counting events
abbrev pub EndedIsByEvents : Type 0
EndedIsByEvents =
    (instance : JobName) (results : Results) (given : List (Name × Delivered)) (es : Events)
    (levels : Name → ℕ)
    (ss : List (Name × Step)) (ns : List Name)
    → let fs = steps_from_last instance results given ss in
    Each (IsCounted es levels) fs
    → have_ended (known_by instance es) fs ns ≡ have_ended_by es levels ss ns

-- events that are legal one after another fit their steps
abbrev pub LegalEventsFit : Type 0
LegalEventsFit =
    (instance : JobName) (fs : List InstanceStep) (f : InstanceStep) → Finds fs f
    → (es : Events) → AreLegal instance fs es → FitStep f es

-- ---- what a history says of one of its open instances

-- by the instance's events it is told which of its jobs are ready, which lists and faults can be settled, and whether it can end
pub record IsToldByEvents (m : Meaning) (past : History) (instance : JobName)
    (es : Events) : Type 0 where
  pub ready :
      (fs : List InstanceStep) (j : Job) (s : Name) (q : Place) (sources : List Origin)
      (after : List Name)
      → IsJobAt past instance es fs j s q sources after
      → is_ready m past j ≡ ready_by instance es fs after s q sources
  pub settles :
      (l : Level) (s : Name) (q : Place) → IsLevelAt instance l s q
      → can_settle m past l ≡ settles_by instance es s q l.sources
  pub ends : (fs : List InstanceStep) → AreStepsOf m instance fs
      → can_end m past instance ≡ ends_by instance es fs

abbrev pub OpenInstancesAreToldByEvents : Type 0
OpenInstancesAreToldByEvents =
    (gives : Giving) (m : Meaning) (past : History) (instance : JobName) (es : Events)
    → IsPartOf m past instance es → is_open past instance ≡ true
    → IsToldByEvents m past instance es

-- a list of the step that may be closed by the instance's events may be closed in the history, and so may a fault be passed; and what
-- the history lets settle at a node of the step has known sources, and nothing was told of it
pub record SettlesLegally (gives : Giving) (m : Meaning) (past : History) (instance : JobName)
    (es : Events)
    (fs : List InstanceStep) (f : InstanceStep) : Type 0 where
  pub closing :
      (q : Place) (n : ℕ) → IsLegalNext instance fs es (events.closed f.step.step q n)
      → is_legal_after gives m past (closed (spot instance f.step.step q) n) ≡ true
  pub passing :
      (q : Place) (d : ErrorDoc) → IsLegalNext instance fs es (fault_set f.step.step q d)
      → is_legal_after gives m past (fault_passed (spot instance f.step.step q)) ≡ true
  pub new :
      (q : Place) (u : Iteration) (l : Level)
      → at f.step.iteration q ≡ Some u → level_at f.step (q, u) ≡ Some l
      → can_settle m past l ≡ true
      → (list_all (known_by instance es) (note u) ≡ true) × (has_level es f.step.step q ≡ false)

abbrev pub SettlementsAreLegal : Type 0
SettlementsAreLegal =
    (gives : Giving) (m : Meaning) (past : History) (instance : JobName) (es : Events)
    → IsPartOf m past instance es → is_open past instance ≡ true
    → (fs : List InstanceStep) (f : InstanceStep) → IsStepHere m instance fs f
    → SettlesLegally gives m past instance es fs f

-- ---- an entry more

-- the events that are the instance's part of a history after one entry more
pub record PartGoesOn (m : Meaning) (past : History) (instance : JobName)
    (es : Events) : Type 0 where
  -- those before, where the entry tells nothing of the instance
  pub stays : (e : Entry) → TellsNothing m past e instance → IsPartOf m (e ∷ past) instance es
  pub closed :
      (s : Name) (q : Place) (n : ℕ)
      → IsPartOf m (closed (spot instance s q) n ∷ past) instance (events.closed s q n ∷ es)
  pub passed :
      (s : Name) (q : Place) (d : ErrorDoc)
      → IsPartOf m (fault_passed (spot instance s q) ∷ past) instance (fault_set s q d ∷ es)
  -- a job is taken with its first try, or where it opens its flow
  pub handed_out :
      (s : Name) (q : Place) (a t : ℕ)
      → IsPartOf m (handed_out (spot instance s q) a t ∷ past) instance (took s q ∷ es)
  pub opened : (s : Name) (q : Place)
      → IsPartOf m (opened (spot instance s q) ∷ past) instance (took s q ∷ es)
  -- an entry with which a job is settled is the event that it gave, with whatever values
  pub settled :
      (e : Entry) (s : Name) (q : Place) (vs : List Value) → Settles m past e instance s q
      → IsPartOf m (e ∷ past) instance (gave s q vs ∷ es)

abbrev pub EntriesAreEvents : Type 0
EntriesAreEvents =
    (gives : Giving) (m : Meaning) (past : History) (instance : JobName) (es : Events)
    → IsPartOf m past instance es → PartGoesOn m past instance es

-- a recall tells nothing of any instance
abbrev pub RecalledIsNone : Type 0
RecalledIsNone =
    (gives : Giving) (m : Meaning) (past : History) (instance : JobName) (k : ℕ)
    → TellsNothing m past (recalled k) instance

-- nor does an entry of another job settle one
abbrev pub OthersStaySettled : Type 0
OthersStaySettled =
    (gives : Giving) (m : Meaning) (past : History) (e : Entry) (n : JobName)
    → SettlesNot e n → StaysSettled m past e n
