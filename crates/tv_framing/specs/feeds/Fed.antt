-- How the ports of the steps of an instance are fed when an event comes.
use Rattle.std.specs.Prelude.{◌≡◌, ℕ, Bool, ◌&&◌, List, [], map, Some, slice_get, unwrap_or}
use Rattle.tv_lemmas.specs.Members.{Each, In}
use Rattle.tv_value.specs.Nested.{list, no_trees, Place}
use Rattle.tv_value.specs.Values.{JobName, Name, Value}
use Rattle.tv_flow.specs.Flows.{Flow, Step, StepInput}
use Rattle.tv_strategy.specs.Origins.{Traced}
use Rattle.tv_naming.specs.Numbers.{position}
use Rattle.tv_model.specs.instance.Delivered.{Ported, feed_delivers, at_port}
use Rattle.tv_check.specs.Feeds.{outputs_of}
use Rattle.tv_check.specs.Ports.{levels_of}
use Rattle.tv_model.specs.instance.ByResults.{InstanceStep, Results, step_of}
use Rattle.tv_model.specs.instance.Events as events
use Rattle.tv_model.specs.instance.Events.{Event, event_step, fault_set, gave, took}
use Rattle.tv_model.specs.Instances.{given_of}
use Rattle.tv_framing.specs.Feeding.{IsPortFed}
use Rattle.tv_framing.specs.Frames.{with_event}
use Rattle.tv_framing.specs.PortTellings.{newly_by}
use Rattle.tv_framing.specs.Views.{InAll, View}
use Rattle.tv_framing.specs.engine.AlongWires.{takes_whole_with}
use Rattle.tv_framing.specs.engine.WiredFlows.{IsWired}
use Rattle.tv_framing.specs.keeping.NextEvents.{IsNextEvent, is_whole_step}

-- what the event's job gave at the output of that name of its step; an empty list where the event isn't a result
abbrev pub given_at : Flow → Event → Name → Value
given_at f (gave s q vs) o = unwrap_or (slice_get vs (position o (outputs_of f s)))
    (list tt no_trees)
given_at f (events.closed s q n) o = list tt no_trees
given_at f (fault_set s q e) o = list tt no_trees
given_at f (took s q) o = list tt no_trees

-- whether a place of the iteration of the event's step becomes whole with it
abbrev pub newly : (Name → ℕ) → View → Event → Place → Bool
newly levels v e = newly_by v.events e (event_step e) (levels (event_step e))

-- the number of the event's step
abbrev pub event_number : View → Event → ℕ
event_number v e = position (event_step e) v.flow.steps

-- whether a port of this step takes its feed at once, and has all of it with the event
abbrev pub has_all_now : (Name → ℕ) → View → Event → Step → Name × StepInput → Bool
has_all_now levels v e s i = newly levels v e []
    && takes_whole_with v.flow (is_whole_step levels v) (event_number v e) s i

-- a port as it takes what its feed delivers, where these are the steps of the instance
abbrev pub port_of : View → List InstanceStep → Name × StepInput → Name × Ported
port_of v fs i = (
  i.0,
  at_port i.1.depth (feed_delivers step_of (given_of v.flow v.inputs) fs
      i.1.from),
)

module _ (levels : Name → ℕ) (v : View) (e : Event) (instance : JobName) (results : Results)
    (fs : List InstanceStep) where
  -- the port walks the levels that the plan says, and its feed brings with the event what the theory of frames has for it
  pub record IsFed (s : Step) (i : Name × StepInput) : Type 0 where
    pub walks : (port_of v fs i).1.mismatch ≡ levels_of v.flow i.1
    pub fed :
        (values : Name → Traced) → values i.0 ≡ (port_of v fs i).1.value
        → IsPortFed instance results fs e v.events values i.0 (newly levels v e) (given_at v.flow e)
        (has_all_now levels v e s i) (port_of v fs i).1.mismatch (port_of v fs i).1.value i.1.from

  -- f is the flow's step s, and its ports are so
  pub record IsStepFed (s : Step) (f : InstanceStep) : Type 0 where
    pub ports : f.step.inputs ≡ map (port_of v fs) s.inputs
    pub fed : Each (IsFed s) s.inputs

-- so it is of every step, whatever isn't told
abbrev pub PortsAreFed : Type 0
PortsAreFed =
    (flows : List (Name × Flow)) (levels : Name → ℕ) (v : View) (e : Event)
    → IsNextEvent flows levels v e → IsWired v.flow
    → (n : ℕ) (s : Name × Step) → slice_get v.flow.steps n ≡ Some s
    → InAll (with_event v e []) (λ instance results fs. (f : InstanceStep) → In f fs
    → f.step.step ≡ s.0
    → IsStepFed levels v e instance results fs s.1 f)
