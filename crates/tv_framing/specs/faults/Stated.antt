-- Laws of what matchers are told of faults in bound values.
use Rattle.std.specs.List.{list_any}
use Rattle.std.specs.Prelude.{◌≡◌, ℕ, get_or, nat_lt, Bool, true, false, List, ◌∷◌, ◌++◌, map, IsPermutation, Some, slice_get}
use Rattle.tv_lemmas.specs.Members.{Each, In}
use Rattle.tv_value.specs.Nested.{Place}
use Rattle.tv_value.specs.Orders.{same_name}
use Rattle.tv_value.specs.Values.{Name, Value, holds_fault}
use Rattle.tv_flow.specs.Flows.{Flow, Step}
use Rattle.tv_strategy.specs.Conditions.{EachOnce}
use Rattle.tv_strategy.specs.Measures.{leaf_names}
use Rattle.tv_naming.specs.Naming.{has_name}
use Rattle.tv_naming.specs.Numbers.{position}
use Rattle.tv_model.specs.instance.Steps.{strategy_of}
use Rattle.tv_parts.specs.Partials.{HoldsFaults, holds_some}
use Rattle.tv_matching.specs.Told.{Told, faulty_at}
use Rattle.tv_telling.specs.declared.ways.Event as code
use Rattle.tv_telling.specs.declared.ways.Whole.{Whole}
use Rattle.tv_telling.specs.Views.{whole_telling}
use Rattle.tv_check.specs.Feeds.{outputs_of}
use Rattle.tv_check.specs.Wirings.{wiring}
use Rattle.tv_model.specs.instance.ByResults.{InstanceStep, PlacedJob}
use Rattle.tv_model.specs.instance.Events.{Event, Events, event_step}
use Rattle.tv_model.specs.Instances.{value_given}
use Rattle.tv_framing.specs.Arriving.{part_so_far}
use Rattle.tv_framing.specs.Frames.{IsFrame, with_event}
use Rattle.tv_framing.specs.Stated.{IsOfDepths}
use Rattle.tv_framing.specs.Views.{InAll, View}
use Rattle.tv_framing.specs.engine.AlongWires.{ports_of_step, told_along}
use Rattle.tv_framing.specs.engine.WiredFlows.{IsWired}
use Rattle.tv_framing.specs.keeping.NextEvents.{IsNextEvent}
use Rattle.tv_framing.specs.keeping.Told.{StepIsTold}
use Rattle.tv_framing.specs.starts.Starts.{step_start}
use Rattle.tv_framing.specs.starts.Stated.{IsBegun}
use Rattle.tv_framing.specs.faults.Known.{IsTrueEvent, IsTrueWhole, tree_of}
use Rattle.tv_framing.specs.faults.Numbers.{AreFaultsBy, AreWholeBy, wholes_with}
use Rattle.tv_framing.specs.faults.Telling.{TellsTruly}

-- at the start
abbrev pub StartIsTrue : Type 0
StartIsTrue =
    (flows : List (Name × Flow)) (levels : Name → ℕ) (v : View) → IsBegun flows levels v
    → (n : ℕ) (s : Name × Step) → slice_get v.flow.steps n ≡ Some s
    → (ts : List Told) → IsPermutation ts (step_start v.flow v.inputs s.1) → TellsTruly v s.0 ts

-- with what is told along the wires from the event's step, and of ports that have their whole values now
abbrev pub TruthGoesOn : Type 0
TruthGoesOn =
    (flows : List (Name × Flow)) (levels : Name → ℕ) (v : View) (e : Event)
    → IsNextEvent flows levels v e → IsWired v.flow
    → (n : ℕ) (s : Name × Step) → slice_get v.flow.steps n ≡ Some s
    → (ts : List Told) → TellsTruly v s.0 ts
    → (faults : Name → ℕ) (from : ℕ) (c : code.Event) → IsTrueEvent levels v e faults from c
    → (ws : List Whole) → Each (IsTrueWhole v.flow levels v.inputs (e ∷ v.events) s.1) ws
    → (after : List Told)
    → IsPermutation after (ts
    ++ (told_along v.flow n s.1 (event_step e) c ++ map (whole_telling (strategy_of s.1)) ws))
    → (new : List (Name × Place)) → TellsTruly (with_event v e new) s.0 after

-- the ports that have their whole values with the event's step, as the code finds them
abbrev pub WholePortsAreTrue : Type 0
WholePortsAreTrue =
    (f : Flow) → IsWired f → (n : ℕ) (s : Name × Step) → slice_get f.steps n ≡ Some s
    → (levels : Name → ℕ) (given : List (Name × Value)) (es : Events) (whole : ℕ → Bool) (t : ℕ)
    → AreWholeBy f levels es whole t
    → (inputs : ℕ → Bool) (outputs : ℕ → ℕ → Bool) → AreFaultsBy f levels given es inputs outputs
    → Each (IsTrueWhole f levels given es s.1)
    (wholes_with inputs outputs whole t (ports_of_step (wiring f) n))

-- with an event of another step an output's tree stays, and of the event's own step the first prefix tells whether it holds a fault
pub record TreesOfEvents (levels : Name → ℕ) (v : View) (e : Event) : Type 0 where
  pub stays :
      (t o : Name) → same_name t (event_step e) ≡ false
      → tree_of v.flow levels (e ∷ v.events) t o
      ≡ tree_of v.flow levels v.events t o
  pub own :
      (faults : Name → ℕ) (from : ℕ) (c : code.Event) → IsTrueEvent levels v e faults from c
      → (o : Name) → has_name (outputs_of v.flow (event_step e)) o ≡ true
      → nat_lt 0 (faults o)
      ≡ holds_some holds_fault (tree_of v.flow levels (e ∷ v.events) (event_step e) o)

abbrev pub TreesAreByEvents : Type 0
TreesAreByEvents = (levels : Name → ℕ) (v : View) (e : Event) → TreesOfEvents levels v e

-- the same by numbers: of the k-th output of a step
pub record TreesOfNumbers (f : Flow) (levels : Name → ℕ) (es : Events)
    (s : Name × Step) : Type 0 where
  pub tree :
      (k : ℕ) (o : Name × ℕ) → slice_get s.1.outputs k ≡ Some o
      → tree_of f levels es s.0 o.0 ≡ part_so_far s.0 k (levels s.0) o.1 es
  pub hold :
      (q : Place) (counts : List ℕ)
      → ((k : ℕ) (o : Name × ℕ) → slice_get s.1.outputs k ≡ Some o
      → HoldsFaults q (part_so_far s.0 k (levels s.0) o.1 es) (get_or counts k 0))
      → (o : Name) → has_name (outputs_of f s.0) o ≡ true
      → HoldsFaults q (tree_of f levels es s.0 o)
      (get_or counts (position o (outputs_of f s.0)) 0)

abbrev pub TreesAreByNumbers : Type 0
TreesAreByNumbers =
    (f : Flow) → IsWired f → (n : ℕ) (s : Name × Step) → slice_get f.steps n ≡ Some s
    → (levels : Name → ℕ) (es : Events) → TreesOfNumbers f levels es s

-- and of all inputs and outputs
abbrev pub FaultsAreByNumbers : Type 0
FaultsAreByNumbers =
    (f : Flow) → IsWired f → (levels : Name → ℕ) (given : List (Name × Value)) (es : Events)
    → (inputs : ℕ → Bool) (outputs : ℕ → ℕ → Bool)
    → ((m : ℕ) (x : Name × ℕ) → slice_get f.inputs m ≡ Some x
    → inputs m ≡ holds_fault (value_given given x.0))
    → ((m k : ℕ) (s : Name × Step) (o : Name × ℕ) → slice_get f.steps m ≡ Some s
    → slice_get s.1.outputs k ≡ Some o
    → outputs m k ≡ holds_some holds_fault (part_so_far s.0 k (levels s.0) o.1 es))
    → AreFaultsBy f levels given es inputs outputs

-- where nothing is told, what was told stays true
abbrev pub TruthStays : Type 0
TruthStays =
    (v : View) (s : Name) (ts : List Told) → TellsTruly v s ts
    → (e : Event) (new : List (Name × Place)) → TellsTruly (with_event v e new) s ts

-- what is said of a known job is whether some value that it binds holds a fault; each leaf of the step's strategy stands there once
abbrev pub JobsHoldWhatIsSaid : Type 0
JobsHoldWhatIsSaid =
    (flows : List (Name × Flow)) (levels : Name → ℕ) (v : View) → IsFrame v
    → IsOfDepths flows levels v → IsWired v.flow
    → (n : ℕ) (s : Name × Step) → slice_get v.flow.steps n ≡ Some s
    → EachOnce (leaf_names (strategy_of s.1)) (leaf_names (strategy_of s.1))
    → (ts : List Told) → StepIsTold v s.0 ts → TellsTruly v s.0 ts
    → (q : Place) → In (s.0, q) v.jobs
    → InAll v (λ instance results fs. Each (λ (f : InstanceStep). Each (λ (j : PlacedJob).
    j.step ≡ s.0 → j.place ≡ q
    → faulty_at (strategy_of s.1) ts q ≡ list_any (λ x. holds_fault x) j.inputs) f.jobs) fs)
