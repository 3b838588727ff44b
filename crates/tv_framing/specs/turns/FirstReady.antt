-- The first ready job of a frame in job order, of those that stand after one of its jobs where one is given.
use Rattle.std.specs.Prelude.{◌≡◌, ℕ, Bool, true, false, List, [], Option, Some, None, map, option_and_then, option_map}
use Rattle.tv_value.specs.Nested.{Place}
use Rattle.tv_value.specs.Values.{Name}
use Rattle.tv_flow.specs.Flows.{Flow}
use Rattle.tv_naming.specs.Numbers.{position}
use Rattle.tv_model.specs.instance.Ranks.{ranked}
use Rattle.tv_model.specs.instance.ByResults.{last_first}
use Rattle.tv_framing.specs.Answers.{IsReadyJob, numbered}
use Rattle.tv_framing.specs.Views.{View}
use Rattle.tv_model.specs.JobOrder.{spot_before}

-- one job of the instance stands before another in job order
abbrev pub stands_before : View → Name × Place → Name × Place → Bool
stands_before v = spot_before (ranked v.flow.steps)

-- a job stands after the one of that number, where one is given
abbrev pub StandsAfter : View → Option ℕ → Name × Place → Type 0
StandsAfter v None x = Unit {0}
StandsAfter v (Some m) x = (y : Name × Place) → numbered v m ≡ Some y → stands_before v y x ≡ true

-- the job of that number is ready and stands after it
pub record CanBeNext (levels : Name → ℕ) (v : View) (after : Option ℕ) (n : ℕ)
    (x : Name × Place) : Type 0 where
  pub job : numbered v n ≡ Some x
  pub ready : IsReadyJob levels v x
  pub later : StandsAfter v after x

-- the job of that number is the first of these
pub record IsNext (levels : Name → ℕ) (v : View) (after : Option ℕ) (n : ℕ) : Type 0 where
  pub which : Name × Place
  pub can : CanBeNext levels v after n which
  pub first :
      (m : ℕ) (y : Name × Place) → CanBeNext levels v after m y → stands_before v y which ≡ false

-- THE ANSWER: none comes exactly where there is none
abbrev pub IsFirstReady : (Name → ℕ) → View → Option ℕ → Option ℕ → Type 0
IsFirstReady levels v after None = (n : ℕ) (x : Name × Place) → CanBeNext levels v after n x → ⊥
IsFirstReady levels v after (Some n) = IsNext levels v after n

-- ---- by the numbers of steps

-- the steps of a flow by falling rank
abbrev pub by_falling_rank : Flow → List ℕ
by_falling_rank f = map (λ s. position s.0 f.steps) (last_first (ranked f.steps) [])

-- the step and the place of the job of that number
abbrev pub spot_of : View → ℕ → Option (ℕ × Place)
spot_of v n = option_map (λ x. (position x.0 v.flow.steps, x.1)) (numbered v n)

abbrev pub spot_given : View → Option ℕ → Option (ℕ × Place)
spot_given v after = option_and_then (spot_of v) after
