-- Laws of a frame that was told nothing yet.
use Rattle.std.specs.Prelude.{◌≡◌, ℕ, List, [], ◌++◌, map, IsPermutation, Some, slice_get}
use Rattle.tv_value.specs.Values.{Name, Value}
use Rattle.tv_flow.specs.Flows.{Flow, Step, StepInput}
use Rattle.tv_strategy.specs.Measures.{leaf_names}
use Rattle.tv_model.specs.instance.Steps.{strategy_of}
use Rattle.tv_matching.specs.Matchers.{CanTellAll, Matching}
use Rattle.tv_matching.specs.Told.{Told, tellings}
use Rattle.tv_check.specs.Ports.{mismatches, port_among}
use Rattle.tv_model.specs.instance.Events.{known_by}
use Rattle.tv_framing.specs.Frames.{IsFrame, known_jobs}
use Rattle.tv_framing.specs.Stated.{IsOfDepths}
use Rattle.tv_framing.specs.Views.{InAll, View}
use Rattle.tv_framing.specs.engine.WiredFlows.{IsWired}
use Rattle.tv_framing.specs.keeping.Told.{StepIsTold}
use Rattle.tv_telling.specs.Openings.{numbered_port_start}
use Rattle.tv_framing.specs.starts.Numbers.{AreInputValues, IsFixedValue}
use Rattle.tv_framing.specs.starts.Starts.{port_start, step_start}

-- its flow is wired, the depths agree, and it was told no event
pub record IsBegun (flows : List (Name × Flow)) (levels : Name → ℕ) (v : View) : Type 0 where
  pub depths : IsOfDepths flows levels v
  pub wired : IsWired v.flow
  pub events : v.events ≡ []

-- with these tellings, in whatever order, each port of the step was told what is known of its walk
abbrev pub StartIsTold : Type 0
StartIsTold =
    (flows : List (Name × Flow)) (levels : Name → ℕ) (v : View) → IsBegun flows levels v
    → (n : ℕ) (s : Name × Step) → slice_get v.flow.steps n ≡ Some s
    → (ts : List Told) → IsPermutation ts (step_start v.flow v.inputs s.1) → StepIsTold v s.0 ts

-- a matcher that was told some of them can be told more of them, one after the other: each fits its port's levels, and no place comes
-- twice
abbrev pub StartCanBeTold : Type 0
StartCanBeTold =
    (flows : List (Name × Flow)) (levels : Name → ℕ) (v : View) → IsBegun flows levels v
    → (n : ℕ) (s : Name × Step) → slice_get v.flow.steps n ≡ Some s
    → (m : Matching) → m.mismatch ≡ mismatches v.flow s.1
    → (ts rest : List Told)
    → IsPermutation (tellings (m.told ++ (ts ++ rest))) (tellings (step_start v.flow v.inputs s.1))
    → CanTellAll m ts

-- a view of which nothing was told, with the jobs that are known then, is a frame
abbrev pub StartIsFrame : Type 0
StartIsFrame =
    (v : View) → v.events ≡ []
    → InAll v (λ instance results fs. IsPermutation v.jobs (known_jobs (known_by instance []) fs))
    → IsFrame v

-- ---- by numbers

-- a port as the code has it is told what the port of that name is told
abbrev pub NumbersStartAlike : Type 0
NumbersStartAlike =
    (f : Flow) → IsWired f → (n : ℕ) (s : Name × Step) → slice_get f.steps n ≡ Some s
    → (k : ℕ) (i : Name × StepInput) → slice_get s.1.inputs k ≡ Some i
    → (given : List (Name × Value)) (values : List Value) → AreInputValues f given values
    → (c : Value) → IsFixedValue i.1.from c
    → numbered_port_start values c (strategy_of s.1) (port_among f (leaf_names (strategy_of s.1)) i)
    ≡ port_start f given i

-- values that are given in the order of the flow's inputs are those of the inputs
abbrev pub InputsAreInOrder : Type 0
InputsAreInOrder =
    (f : Flow) (given : List (Name × Value)) → map (λ x. x.0) given ≡ map (λ x. x.0) f.inputs
    → AreInputValues f given (map (λ x. x.1) given)
