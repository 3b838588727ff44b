-- Laws of what the ports of a step gain and are told with an event, of the partial trees of its outputs, and of frames.
use Rattle.std.specs.List.{list_all}
use Rattle.std.specs.Prelude.{◌≡◌, ℕ, ◌+◌, ◌++◌, Bool, true, false, List, [], ◌∷◌, Some, map, IsPermutation}
use Rattle.tv_lemmas.specs.Members.{Each, In}
use Rattle.tv_value.specs.Nested.{Place, at, notes}
use Rattle.tv_value.specs.Orders.{same_name}
use Rattle.tv_value.specs.Values.{HasDepth, JobName, Name, Value}
use Rattle.tv_flow.specs.Flows.{Feed, Flow, Step}
use Rattle.tv_strategy.specs.Iterations.{Iteration, walk}
use Rattle.tv_strategy.specs.Levels.{HasLevels}
use Rattle.tv_strategy.specs.Measures.{DotsAgree}
use Rattle.tv_strategy.specs.Origins.{Origin, Traced, fixed, plain}
use Rattle.tv_strategy.specs.Outputs.{output_below}
use Rattle.tv_strategy.specs.Sources.{AtNodes}
use Rattle.tv_model.specs.instance.Delivered.{Delivered, feed_delivers, wrapped}
use Rattle.tv_model.specs.instance.Ranks.{ranked}
use Rattle.tv_model.specs.instance.Steps.{port_iteration, port_mismatch, spot, strategy_of}
use Rattle.tv_parts.specs.Below.{Below}
use Rattle.tv_matching.specs.Items.{Bound, Item, Stopped, known_items}
use Rattle.tv_matching.specs.Matched.{matched}
use Rattle.tv_model.specs.instance.ByResults.{InstanceStep, Results, last_first, step_by, step_of, steps_by}
use Rattle.tv_model.specs.instance.Counting.{have_ended_by, whole_by}
use Rattle.tv_model.specs.instance.Endings.{has_ended, have_ended}
use Rattle.tv_model.specs.instance.Events.{Event, Events, Extends, event_place, event_step, gave, has_result, is_telling, known_by, took}
use Rattle.tv_model.specs.instance.Fitting.{FitStep}
use Rattle.tv_model.specs.instance.Legality.{IsFresh, IsLegalNext}
use Rattle.tv_model.specs.instance.OneEvent.{Rises}
use Rattle.tv_model.specs.instance.OwnDepths.{AreLevels}
use Rattle.tv_model.specs.instance.Wholeness.{is_whole, origin_at}
use Rattle.tv_framing.specs.instances.InHistory.{Finds}
use Rattle.tv_model.specs.Agreeing.{FlowAgrees, InputsHave}
use Rattle.tv_framing.specs.Answers.{has_ended_now}
use Rattle.tv_framing.specs.Arriving.{part_so_far}
use Rattle.tv_framing.specs.Feeding.{IsPortFed}
use Rattle.tv_framing.specs.Frames.{AreNewWith, FitsKind, IsFrame, new_jobs, with_event}
use Rattle.tv_framing.specs.Gaining.{IsOutputOf, feed_whole, gained_items, on_way}
use Rattle.tv_framing.specs.PortTellings.{placed, port_told, seen_told, value_told}
use Rattle.tv_framing.specs.Views.{AreGiven, AreOfDepth, InAll, View}

-- ---- what a port gains

-- what is known after an event is what was known before, and what is gained
abbrev pub KnownIsBeforeAndGained : Type 0
KnownIsBeforeAndGained =
    (known after : Origin → Bool) → ((o : Origin) → known o ≡ true → after o ≡ true)
    → (t : Iteration) → IsPermutation (known_items after t)
    (known_items known t ++ gained_items known after t)

-- what a port gains of an output of the event's step stands on the way to the event's node, which wasn't known
abbrev pub PortsGainOnWay : Type 0
PortsGainOnWay =
    (named : Place → JobName) (known after : Origin → Bool) (p : Place)
    → (c : Rises named known after p)
    → (gives : Place → Value) (declared : ℕ) (port : Name) (node : Iteration)
    → c.hits (origin_at named p node) ≡ true → known (origin_at named p node) ≡ false
    → (t : Iteration) (k d : ℕ) → at t p ≡ Some node
    → gained_items known after (walk port k (output_below named gives declared [] d t))
    ≡ on_way known after named gives declared port [] k d t p

-- ---- what a port is told

-- at the start: all of a value that is known, as inputs and constants are
abbrev pub KnownValuesAreToldWhole : Type 0
KnownValuesAreToldWhole =
    (known : Origin → Bool) (values : Name → Traced) (p : Name) (k declared : ℕ) (v : Traced)
    → AtNodes (λ o. known o ≡ true) v → at (values p) [] ≡ Some v → HasDepth v (k + declared)
    → map (placed []) (known_items known (walk p k v))
    ≡ map (seen_told values) (value_told p k [] v)

-- and nothing of a value of which nothing is known, as of every output
abbrev pub UnknownValuesAreNotTold : Type 0
UnknownValuesAreNotTold =
    (known : Origin → Bool) (p : Name) (k : ℕ) (v : Traced)
    → AtNodes (λ o. known o ≡ false) v → known_items known (walk p k v) ≡ []

-- with an event: by places alone, what it gains
abbrev pub PortsAreToldWhatTheyGain : Type 0
PortsAreToldWhatTheyGain =
    (instance : JobName) (results : Results) (fs : List InstanceStep) (e : Event) (es : Events)
    → IsLegalNext instance fs es e → is_telling e ≡ true
    → (values : Name → Traced) (p : Name) (newly : Place → Bool) (given_at : Name → Value)
    → (whole_now : Bool) (k : ℕ) (v : Traced) (f : Feed)
    → IsPortFed instance results fs e es values p newly given_at whole_now k v f
    → map (placed []) (gained_items (known_by instance es) (known_by instance (e ∷ es))
    (walk p k v))
    ≡ map (seen_told values) (port_told newly e given_at p whole_now k f)

-- what a feed delivers is all known where the steps that it comes from are whole
abbrev pub FeedsAreKnownWhole : Type 0
FeedsAreKnownWhole =
    (instance : JobName) (results : Results) (known : Origin → Bool) → known fixed ≡ true
    → (given : List (Name × Delivered)) → Each (λ d. AtNodes (λ o. known o ≡ true) d.1.value) given
    → (ss : List (Name × Step)) (f : Feed)
    → let fs = steps_by instance results given [] ss in
    list_all known (notes (feed_delivers step_of given fs f).value) ≡ feed_whole instance known fs f

-- wrapping changes nothing of that
abbrev pub WrappingIsKnown : Type 0
WrappingIsKnown =
    (known : Origin → Bool) → known fixed ≡ true
    → (k : ℕ) (v : Traced) → list_all known (notes (wrapped k v)) ≡ list_all known (notes v)

-- ---- what is matched

-- where each port was told what is known of its walk, what is matched is what is known of the step's iteration
abbrev pub MatchedIsKnown : Type 0
MatchedIsKnown =
    (known : Origin → Bool) (instance : JobName) (results : Results)
    (given : List (Name × Delivered)) (fs : List InstanceStep)
    (n : Name) (s : Step)
    → let f = step_by instance results given fs (n, s) in
    ((p : Name) → HasLevels (port_iteration f.step.inputs p) (port_mismatch f.step.inputs p))
    → DotsAgree (port_mismatch f.step.inputs) (strategy_of s)
    → (told : Name → List (Item Bound Stopped))
    → ((p : Name) → IsPermutation (told p) (known_items known (port_iteration f.step.inputs p)))
    → IsPermutation (matched told (strategy_of s)) (known_items known f.step.iteration)

-- ---- partial trees

-- what was told of an output is below its value, for all results that have what was told
abbrev pub PartsAreBelow : Type 0
PartsAreBelow =
    (instance : JobName) (results : Results) (f : InstanceStep) (d : Delivered)
    (out : IsOutputOf instance results f d)
    (es : Events) → Extends results es → FitStep f es
    → Below (part_so_far f.step.step out.0 out.2 out.1 es) (plain d.value)

-- ---- legal events

-- an event may come next in its step exactly where a known item of its kind stands at its place, and nothing was told of it
pub record IsKnownItem (instance : JobName) (f : InstanceStep) (es : Events) (e : Event)
    (x : Item Bound Stopped) : Type 0 where
  pub item : In x (known_items (known_by instance es) f.step.iteration)
  pub place : x.place ≡ event_place e
  pub kind : FitsKind e x.kind

abbrev pub KnownItemsAreLegal : Type 0
KnownItemsAreLegal =
    (instance : JobName) (fs : List InstanceStep) (f : InstanceStep) → Finds fs f
    → (es : Events) (e : Event) → same_name f.step.step (event_step e) ≡ true
    → (x : Item Bound Stopped) → IsKnownItem instance f es e x → IsFresh es e
    → IsLegalNext instance fs es e

abbrev pub LegalIsKnownItem : Type 0
LegalIsKnownItem =
    (instance : JobName) (fs : List InstanceStep) (f : InstanceStep) → Finds fs f
    → (es : Events) (e : Event) → same_name f.step.step (event_step e) ≡ true
    → IsLegalNext instance fs es e → (x : Item Bound Stopped) × IsKnownItem instance f es e x

-- ---- frames

-- a frame stays a frame with an event that is legal whatever isn't told, and the jobs that become known with it
abbrev pub FramesGoOn : Type 0
FramesGoOn =
    (v : View) → IsFrame v → (e : Event) (new : List (Name × Place))
    → AreGiven (ranked v.flow.steps) (e ∷ v.events)
    → InAll (with_event v e new) (λ instance results fs. IsLegalNext instance fs v.events e)
    → AreNewWith v e new → IsFrame (with_event v e new)

-- the result of a known job that has none is legal, whatever isn't told
abbrev pub ResultsAreLegal : Type 0
ResultsAreLegal =
    (v : View) → IsFrame v → (s : Name) (q : Place) (vs : List Value) → In (s, q) v.jobs
    → has_result v.events s q ≡ false
    → InAll v (λ instance results fs. IsLegalNext instance fs v.events (gave s q vs))

-- no job becomes known where one is taken
abbrev pub TakingMakesNoneKnown : Type 0
TakingMakesNoneKnown =
    (instance : JobName) (s : Name) (q : Place) (es : Events) (fs : List InstanceStep)
    → new_jobs (known_by instance es) (known_by instance (took s q ∷ es)) fs ≡ []

-- of every frame some results are possible, so what is so in all is so of some
abbrev pub FramesArePossible : Type 0
FramesArePossible =
    (v : View) → IsFrame v → (instance : JobName)
    → (results : Results) × AreOfDepth v instance results × Extends results v.events

-- ---- what the events tell of a frame, whatever isn't told, where the depths of its flow agree

-- its flow's depths agree, its inputs have them, and these are the levels that they tell
pub record IsOfDepths (flows : List (Name × Flow)) (levels : Name → ℕ) (v : View) : Type 0 where
  pub flow : FlowAgrees flows v.flow
  pub inputs : InputsHave v.flow.inputs v.inputs
  pub levels_are : AreLevels levels v.flow.inputs [] (ranked v.flow.steps)

-- the step is whole where it is by counting events
abbrev pub IsWholeByEvents : (Name → ℕ) → View → JobName → InstanceStep → Type 0
IsWholeByEvents levels v instance f =
    is_whole (spot instance f.step.step) (known_by instance v.events) [] f.step.iteration
    ≡ whole_by v.events f.step.step (levels f.step.step) []

-- which steps are whole
abbrev pub WholeIsTold : Type 0
WholeIsTold =
    (flows : List (Name × Flow)) (levels : Name → ℕ) (v : View) → IsFrame v
    → IsOfDepths flows levels v
    → InAll v (λ instance results fs. Each (IsWholeByEvents levels v instance) fs)

-- whether the steps that are named have ended
abbrev pub EndedIsTold : Type 0
EndedIsTold =
    (flows : List (Name × Flow)) (levels : Name → ℕ) (v : View) → IsFrame v
    → IsOfDepths flows levels v → (ns : List Name)
    → InAll v (λ instance results fs.
    have_ended (known_by instance v.events) fs ns
    ≡ have_ended_by v.events levels (last_first (ranked v.flow.steps) []) ns)

-- and whether all have
abbrev pub EndingIsTold : Type 0
EndingIsTold =
    (flows : List (Name × Flow)) (levels : Name → ℕ) (v : View) → IsFrame v
    → IsOfDepths flows levels v
    → InAll v (λ instance results fs. list_all (has_ended (known_by instance v.events)) fs
    ≡ has_ended_now levels v)
