-- What the matchers of steps are told along the wires of a flow.
use Rattle.std.specs.Prelude.{◌≡◌, ℕ, ◌-◌, ◌&&◌, Bool, true, false, List, [], ◌++◌, filter, find, flat_map, get_or, if◌then◌else◌, map, Some, slice_get, slice_index_or}
use Rattle.tv_value.specs.Nested.{Place}
use Rattle.tv_value.specs.Orders.{same_name}
use Rattle.tv_value.specs.Values.{JobName, Name, Value}
use Rattle.tv_flow.specs.Flows.{Flow, Step, StepInput}
use Rattle.tv_strategy.specs.Measures.{leaf_names}
use Rattle.tv_strategy.specs.Origins.{Origin, Traced}
use Rattle.tv_naming.specs.Naming.{has_name}
use Rattle.tv_naming.specs.Numbers.{position}
use Rattle.tv_model.specs.instance.Steps.{strategy_of}
use Rattle.tv_matching.specs.Told.{Told, item_there, told_leaf, told_to}
use Rattle.tv_telling.specs.declared.ways.Event as code
use Rattle.tv_telling.specs.declared.ways.Whole.{Whole}
use Rattle.tv_telling.specs.Views.{happening, way_tellings, whole_telling}
use Rattle.tv_telling.specs.Along.{ways_into, wires_from}
use Rattle.tv_check.specs.declared.ports.Port.{Port}
use Rattle.tv_check.specs.declared.wiring.Wiring.{Wiring}
use Rattle.tv_check.specs.Feeds.{feed_numbered, outputs_of}
use Rattle.tv_check.specs.Ports.{levels_of, port_among}
use Rattle.tv_check.specs.Wirings.{wiring}
use Rattle.tv_telling.specs.endings.Feeds as feeds
use Rattle.tv_telling.specs.endings.Feeds.{has_whole_with, leaves_whole_with}
use Rattle.tv_model.specs.instance.ByResults.{InstanceStep}
use Rattle.tv_model.specs.instance.Events.{Event, event_place, event_step, is_telling}
use Rattle.tv_framing.specs.Gaining as framing
use Rattle.tv_framing.specs.Gaining.{step_whole}
use Rattle.tv_framing.specs.PortTellings.{port_told, seen_told}
use Rattle.tv_framing.specs.ways.Stated.{IsFrom, happening_of, port_by_ways}
use Rattle.tv_framing.specs.engine.WiredFlows.{IsWired}

-- ---- what is told along them

-- of these tellings, those of one leaf
abbrev pub of_leaf : Name → List Told → List Told
of_leaf p ts = filter (λ t. same_name p (told_leaf t)) ts

-- the code has the event like this. Its job gave these values at the outputs of its step, which hold faults at so many prefixes of the
-- event's place; and these turn whole from that length on
pub record IsSeenAs (f : Flow) (given_at : Name → Value) (faults : Name → ℕ) (from : ℕ) (e : Event)
    (c : code.Event)
    : Type 0 where
  pub place : c.place.now ≡ event_place e
  pub whole_from : c.whole_from ≡ from
  pub happened :
      (o : Name) → has_name (outputs_of f (event_step e)) o ≡ true
      → happening c.happened (position o (outputs_of f (event_step e)))
      ≡ happening_of e (given_at o)
  pub faults_are :
      (o : Name) → has_name (outputs_of f (event_step e)) o ≡ true
      → get_or c.faults.now (position o (outputs_of f (event_step e))) 0 ≡ faults o

-- i is an input port of s, which is the step of that number
pub record IsPortOf (f : Flow) (n : ℕ) (s : Name × Step) (i : Name × StepInput) : Type 0 where
  pub step : slice_get f.steps n ≡ Some s
  pub number : ℕ
  pub port : slice_get s.1.inputs number ≡ Some i

-- an event of one of the steps of a wired flow, as the code has it, and a port that may be told of it
pub record IsTold (f : Flow) (n : ℕ) (s : Name × Step) (i : Name × StepInput)
    (given_at : Name → Value) (faults : Name → ℕ)
    (from : ℕ) (e : Event) (c : code.Event) : Type 0 where
  pub wired : IsWired f
  pub port : IsPortOf f n s i
  pub feeding : has_name f.steps (event_step e) ≡ true
  pub event : IsSeenAs f given_at faults from e c

-- what is told with the event along the ways from its step to step n
abbrev pub told_along : Flow → ℕ → Step → Name → code.Event → List Told
told_along f n s t c = flat_map (way_tellings (strategy_of s) c)
    (ways_into n (wires_from (wiring f) (position t f.steps)))

-- it tells the port what `ways` has for the port's feed, and nothing where the port walks no levels and takes its feed at once
abbrev pub WiresTellPorts : Type 0
WiresTellPorts =
    (f : Flow) (n : ℕ) (s : Name × Step) (i : Name × StepInput) (given_at : Name → Value)
    (faults : Name → ℕ) (from : ℕ)
    (e : Event) (c : code.Event) → IsTold f n s i given_at faults from e c → (faulty : Bool)
    → of_leaf i.0 (told_along f n s.1 (event_step e) c)
    ≡ port_by_ways e given_at faults i.0 from false faulty (levels_of f i.1) i.1.from

-- ---- the same in theory, with the ports that take their feeds at once

-- the ports of a step, by its number
abbrev pub ports_of_step : Wiring → ℕ → List Port
ports_of_step w n = slice_index_or w.ports n []

-- these leaves have their whole values with step t: none, or where it turned whole those that `tv_telling` lists; `whole` says which
-- steps were whole before
abbrev pub AreWholeWith : Bool → (ℕ → Bool) → ℕ → List Port → List Whole → Type 0
AreWholeWith turned whole t ports ws =
    map (λ (w : Whole). w.leaf) ws ≡ (if turned then leaves_whole_with whole t ports else [])

-- whether the port takes its feed at once, and has all of it with step t
abbrev pub takes_whole_with : Flow → (ℕ → Bool) → ℕ → Step → Name × StepInput → Bool
takes_whole_with f whole t s i = has_whole_with whole t (port_among f (leaf_names (strategy_of s))
    i)

-- with the values that stand there, the port is told what the theory of frames says, where these prefixes of the event's place
-- become whole
abbrev pub EventsTellAsInTheory : Type 0
EventsTellAsInTheory =
    (f : Flow) (n : ℕ) (s : Name × Step) (i : Name × StepInput) (given_at : Name → Value)
    (faults : Name → ℕ) (from : ℕ)
    (e : Event) (c : code.Event) → IsTold f n s i given_at faults from e c
    → is_telling e ≡ true → (newly : Place → Bool) → IsFrom newly (event_place e) from
    → let t = position (event_step e) f.steps in
    (turned : Bool) (whole : ℕ → Bool) (ws : List Whole)
    → AreWholeWith turned whole t (ports_of_step (wiring f) n) ws
    → (values : Name → Traced)
    → map (item_there values) (told_to (told_along f n s.1 (event_step e) c
    ++ map (whole_telling (strategy_of s.1)) ws) i.0)
    ≡ map (seen_told values)
    (port_told newly e given_at i.0 (turned && takes_whole_with f whole t s.1 i)
    (levels_of f i.1) i.1.from)

-- ---- feeds by names and by numbers

-- the first step of that name among those of an instance has the flow's outputs, and is marked whole where it is so
pub record IsMarked (f : Flow) (instance : JobName) (known : Origin → Bool) (fs : List InstanceStep)
    (whole : ℕ → Bool)
    (t : Name) : Type 0 where
  pub step : InstanceStep
  pub found : find (λ (g : InstanceStep). same_name t g.step.step) fs ≡ Some step
  pub outputs : (o : Name) → has_name (outputs_of f t) o ≡ true
      → has_name step.step.outputs o ≡ true
  pub marked : whole (position t f.steps) ≡ step_whole instance known step

-- where each step is marked so, all that feeds a port is known exactly where `tv_telling` says so
abbrev pub FeedsAreWholeByNumbers : Type 0
FeedsAreWholeByNumbers =
    (f : Flow) → IsWired f → (n : ℕ) (s : Name × Step) (i : Name × StepInput) → IsPortOf f n s i
    → (instance : JobName) (known : Origin → Bool) (fs : List InstanceStep) (whole : ℕ → Bool)
    → ((t : Name) → has_name f.steps t ≡ true → IsMarked f instance known fs whole t)
    → framing.feed_whole instance known fs i.1.from
    ≡ feeds.feed_whole whole (feed_numbered f i.1.from)
