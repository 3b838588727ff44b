-- Laws of what stays and what changes with an event: what the matchers of steps were told, and which steps are whole.
use Rattle.std.specs.List.{list_any}
use Rattle.std.specs.Prelude.{◌≡◌, ℕ, ◌<◌, ◌==◌, false, true, length, replicate, slice_set, List, [], ◌∷◌, ◌++◌, if◌then◌else◌, map, Some, slice_get, IsPermutation}
use Rattle.tv_value.specs.Nested.{Place}
use Rattle.tv_value.specs.Values.{Name}
use Rattle.tv_flow.specs.Flows.{Flow, Step}
use Rattle.tv_model.specs.instance.Steps.{strategy_of}
use Rattle.tv_matching.specs.Told.{Told}
use Rattle.tv_telling.specs.declared.ways.Event as code
use Rattle.tv_telling.specs.declared.ways.Whole.{Whole}
use Rattle.tv_telling.specs.Views.{whole_telling}
use Rattle.tv_check.specs.declared.wires.Wire.{Wire}
use Rattle.tv_check.specs.Wirings.{all_after, wiring}
use Rattle.tv_telling.specs.declared.endings.endings.Endings.{Endings}
use Rattle.tv_telling.specs.endings.Ends.{IsSound, is_whole}
use Rattle.tv_telling.specs.endings.Feeds.{with_step}
use Rattle.tv_model.specs.instance.Counting.{whole_by}
use Rattle.tv_model.specs.instance.Events.{Event, Events, event_place, event_step, took}
use Rattle.tv_framing.specs.Frames.{with_event}
use Rattle.tv_framing.specs.Views.{View}
use Rattle.tv_framing.specs.ways.Stated.{IsFrom}
use Rattle.tv_framing.specs.engine.AlongWires.{AreWholeWith, IsSeenAs, ports_of_step, told_along}
use Rattle.tv_telling.specs.Along.{wires_from}
use Rattle.tv_framing.specs.engine.EndedSteps.{AreEndingsOf}
use Rattle.tv_framing.specs.engine.WiredFlows.{IsWired}
use Rattle.tv_framing.specs.keeping.NextEvents.{IsNextEvent, is_whole_step}
use Rattle.tv_framing.specs.keeping.Told.{StepIsTold}
use Rattle.tv_framing.specs.feeds.Fed.{event_number, given_at, newly}

-- ---- what the matchers of steps were told

-- a step was told what is known of its ports. The code has the event as c, prefixes of its place become whole from that length on, and
-- these are the step's ports that have all of their feeds now. With what is told along the wires from the event's step, and of these
-- ports, the step was told what is known after the event
abbrev pub ToldGoesOn : Type 0
ToldGoesOn =
    (flows : List (Name × Flow)) (levels : Name → ℕ) (v : View) (e : Event)
    → IsNextEvent flows levels v e → IsWired v.flow
    → (n : ℕ) (s : Name × Step) → slice_get v.flow.steps n ≡ Some s
    → (ts : List Told) → StepIsTold v s.0 ts
    → (faults : Name → ℕ) (from : ℕ) (c : code.Event)
    → IsSeenAs v.flow (given_at v.flow e) faults from e c
    → IsFrom (newly levels v e) (event_place e) from
    → (ws : List Whole)
    → AreWholeWith (from == 0) (is_whole_step levels v) (event_number v e)
    (ports_of_step (wiring v.flow) n) ws
    → (after : List Told)
    → IsPermutation after (ts
    ++ (told_along v.flow n s.1 (event_step e) c ++ map (whole_telling (strategy_of s.1)) ws))
    → (new : List (Name × Place)) → StepIsTold (with_event v e new) s.0 after

-- a step to which no wire leads from the event's step needs to be told nothing
abbrev pub UntouchedStayTold : Type 0
UntouchedStayTold =
    (flows : List (Name × Flow)) (levels : Name → ℕ) (v : View) (e : Event)
    → IsNextEvent flows levels v e → IsWired v.flow
    → (n : ℕ) (s : Name × Step) → slice_get v.flow.steps n ≡ Some s
    → list_any (λ (w : Wire). w.step == n) (wires_from (wiring v.flow) (event_number v e)) ≡ false
    → (ts : List Told) → StepIsTold v s.0 ts
    → (new : List (Name × Place)) → StepIsTold (with_event v e new) s.0 ts

-- ---- which steps are whole

-- the event's step becomes whole where all prefixes of the event's place do, and wasn't so before; no other step does
pub record WholeGoesOn (levels : Name → ℕ) (v : View) (e : Event) (from : ℕ) : Type 0 where
  pub before : (from == 0) ≡ true → is_whole_step levels v (event_number v e) ≡ false
  pub after :
      (n : ℕ) (s : Name × Step) → slice_get v.flow.steps n ≡ Some s
      → whole_by (e ∷ v.events) s.0 (levels s.0) []
      ≡ (if from == 0 then with_step (is_whole_step levels v)
      (event_number v e) n else is_whole_step levels v n)

abbrev pub WholeStepsGoOn : Type 0
WholeStepsGoOn =
    (flows : List (Name × Flow)) (levels : Name → ℕ) (v : View) (e : Event)
    → IsNextEvent flows levels v e → IsWired v.flow
    → (from : ℕ) → IsFrom (newly levels v e) (event_place e) from → WholeGoesOn levels v e from

-- ---- the counters of steps

-- the event's step is a step of the flow, and it isn't marked whole yet where it turns whole; with the counters in which it is marked
-- then, and no other step is more, the flow has its counters after the event
pub record MarksGoOn (levels : Name → ℕ) (v : View) (e : Event) (from : ℕ)
    (x : Endings) : Type 0 where
  pub within : event_number v e < length v.flow.steps
  pub before : (from == 0) ≡ true → is_whole x (event_number v e) ≡ false
  pub after :
      (y : Endings) → IsSound (all_after v.flow) y
      → y.whole.items ≡ (if from == 0 then slice_set x.whole.items (event_number v e) true
      else x.whole.items)
      → AreEndingsOf v.flow levels (e ∷ v.events) y

abbrev pub EndingsGoOn : Type 0
EndingsGoOn =
    (flows : List (Name × Flow)) (levels : Name → ℕ) (v : View) (e : Event)
    → IsNextEvent flows levels v e → IsWired v.flow
    → (from : ℕ) → IsFrom (newly levels v e) (event_place e) from
    → (x : Endings) → AreEndingsOf v.flow levels v.events x → MarksGoOn levels v e from x

-- at the start, where none is marked, the flow has its counters
abbrev pub EndingsStart : Type 0
EndingsStart =
    (f : Flow) (levels : Name → ℕ) (x : Endings) → IsSound (all_after f) x
    → x.whole.items ≡ replicate (length (all_after f)) false → AreEndingsOf f levels [] x

-- the marks are the steps that are whole, whatever number is asked
abbrev pub MarksAreWholeSteps : Type 0
MarksAreWholeSteps =
    (levels : Name → ℕ) (v : View) (x : Endings) → AreEndingsOf v.flow levels v.events x
    → (n : ℕ) → is_whole x n ≡ is_whole_step levels v n

-- where a job is taken they stay
abbrev pub TakingEndsNothing : Type 0
TakingEndsNothing =
    (f : Flow) (levels : Name → ℕ) (es : Events) (s : Name) (q : Place) (x : Endings)
    → AreEndingsOf f levels es x → AreEndingsOf f levels (took s q ∷ es) x
