-- Which jobs of a step may be taken.
use Rattle.std.specs.Prelude.{◌≡◌, ℕ, Bool, true, false, Option, Some, None}
use Rattle.tv_value.specs.Nested.{Place}
use Rattle.tv_value.specs.Values.{Name}
use Rattle.tv_flow.specs.Flows.{Step}
use Rattle.tv_model.specs.instance.Events.{has_result, is_taken}
use Rattle.tv_framing.specs.Answers.{IsReadyJob, numbered}
use Rattle.tv_framing.specs.Views.{View}
use Rattle.tv_framing.specs.matches.Steps.{IsStepAt}
use Rattle.tv_model.specs.JobOrder.{place_before}

-- the job of that number stands at this place of the step, and neither runs nor has a result
pub record IsIdleThere (v : View) (s : Name) (n : ℕ) (q : Place) : Type 0 where
  pub job : numbered v n ≡ Some (s, q)
  pub free : is_taken v.events s q ≡ false
  pub without_result : has_result v.events s q ≡ false

-- some known job of the step is idle, or none is
abbrev pub HasIdle : View → Name → Bool → Type 0
HasIdle v s true = (n : ℕ) × (q : Place) × IsIdleThere v s n q
HasIdle v s false = (n : ℕ) (q : Place) → IsIdleThere v s n q → ⊥

-- some idle job is one of which this is said, by the number of its step and its place
pub record HasIdleWith (v : View) (says : ℕ × Place → Bool) : Type 0 where
  pub number : ℕ
  pub step : Name × Step
  pub is : IsStepAt v number step
  pub job : ℕ
  pub place : Place
  pub idle : IsIdleThere v step.0 job place
  pub said : says (number, place) ≡ true

-- the job of that number is a ready one at this place of the step, and so is said of what it binds
pub record IsReadyWith (levels : Name → ℕ) (v : View) (says : Place → Bool) (s : Name) (b : Bool)
    (n : ℕ) (q : Place)
    : Type 0 where
  pub job : numbered v n ≡ Some (s, q)
  pub ready : IsReadyJob levels v (s, q)
  pub said : says q ≡ b

-- the job of that number is one of these, and none stands before it
pub record IsFirstWith (levels : Name → ℕ) (v : View) (says : Place → Bool) (s : Name) (b : Bool)
    (n : ℕ)
    : Type 0 where
  pub place : Place
  pub is : IsReadyWith levels v says s b n place
  pub first : (m : ℕ) (r : Place) → IsReadyWith levels v says s b m r → place_before r place ≡ false

-- the first of these in order of place, none exactly where there is none
abbrev pub IsFirstOfStep : (Name → ℕ) → View → (Place → Bool) → Name → Bool → Option ℕ → Type 0
IsFirstOfStep levels v says s b None = (n : ℕ) (q : Place) → IsReadyWith levels v says s b n q → ⊥
IsFirstOfStep levels v says s b (Some n) = IsFirstWith levels v says s b n
