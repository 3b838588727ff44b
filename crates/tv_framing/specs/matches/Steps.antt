-- What the matchers of a frame's steps were told, and what they bring, by the numbers of the steps.
use Rattle.std.specs.Prelude.{◌≡◌, ℕ, true, List, length, map, Some, slice_get, IsPermutation}
use Rattle.tv_value.specs.Values.{Name}
use Rattle.tv_flow.specs.Flows.{Flow, Step}
use Rattle.tv_flow.specs.Formed.{is_flow}
use Rattle.tv_strategy.specs.Conditions.{EachOnce}
use Rattle.tv_strategy.specs.Measures.{leaf_names}
use Rattle.tv_model.specs.instance.Ranks.{ranked}
use Rattle.tv_model.specs.instance.Steps.{strategy_of}
use Rattle.tv_matching.specs.Matchers.{Outcome, out}
use Rattle.tv_matching.specs.Told.{Told, matched_after}
use Rattle.tv_framing.specs.Stated.{IsOfDepths}
use Rattle.tv_framing.specs.Views.{View}
use Rattle.tv_framing.specs.keeping.Told.{StepIsTold}

-- the steps of the frame's flow have names in order and a rank each, and their depths agree
pub record IsOfRankedFlow (flows : List (Name × Flow)) (levels : Name → ℕ) (v : View) : Type 0 where
  pub depths : IsOfDepths flows levels v
  pub formed : is_flow v.flow ≡ true
  pub ranked : length (ranked v.flow.steps) ≡ length v.flow.steps

-- no name stands at two leaves of the step's strategy
abbrev pub LeavesDiffer : Step → Type 0
LeavesDiffer s = EachOnce (leaf_names (strategy_of s)) (leaf_names (strategy_of s))

-- s is the step of that number
abbrev pub IsStepAt : View → ℕ → Name × Step → Type 0
IsStepAt v n s = slice_get v.flow.steps n ≡ Some s

-- the step's matcher was told of each port what is known of its walk, and brings these outcomes, in
-- whatever order
pub record IsStepTold (v : View) (s : Name × Step) (ts : List Told) (os : List Outcome)
    : Type 0 where
  pub told : StepIsTold v s.0 ts
  pub outcomes : IsPermutation os (map (out (strategy_of s.1)) (matched_after (strategy_of s.1) ts))

-- so it is of every step
abbrev pub AreStepsTold : View → (ℕ → List Told) → (ℕ → List Outcome) → Type 0
AreStepsTold v ts os = (n : ℕ) (s : Name × Step) → IsStepAt v n s → IsStepTold v s (ts n) (os n)
