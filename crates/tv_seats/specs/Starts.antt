-- Steps of which no job is known.
use Rattle.std.specs.Prelude.{◌≡◌, ℕ, ◌+◌, ◌<◌, ◌≤◌, List, [], ◌∷◌, ◌++◌, length, take}
use Rattle.tv_seats.specs.declared.steps.StepSeats.{StepSeats}
use Rattle.tv_seats.specs.Kept.{all_levels}
use Rattle.tv_seats.specs.Seats.{levels_of}

-- places have so many indices
pub record IsEmptyStep (levels : ℕ) (x : StepSeats) : Type 0 where
  pub idle : x.idle.jobs ≡ []
  pub levels_are : x.idle.levels ≡ levels
  pub aside : x.aside.jobs ≡ []
  pub aside_levels : x.aside.levels ≡ levels
  pub nested : x.nested.items ≡ []
  pub room : x.nested_room ≡ 0
  pub running : x.running ≡ 0
  pub out : x.out ≡ 0

abbrev pub AreEmpty : List StepSeats → Type 0
AreEmpty [] = Unit {0}
AreEmpty (x ∷ xs) = IsEmptyStep x.idle.levels x × AreEmpty xs

-- no places are wider
abbrev pub AreWithin : List ℕ → ℕ → Type 0
AreWithin ls w = (k : ℕ) → levels_of ls k ≤ w

-- places have so many indices by step, and no more than the widest
pub record AreEmptySteps (levels : List ℕ) (widest : ℕ) (xs : List StepSeats) : Type 0 where
  pub levels_are : all_levels xs ≡ levels
  pub each : AreEmpty xs
  pub within : AreWithin (all_levels xs) widest

-- the step of that number is empty, those before it stay, and no step is added behind it
pub record EmptiesStep (number levels : ℕ) (old new : List StepSeats) : Type 0 where
  pub step : StepSeats
  pub empty : IsEmptyStep levels step
  pub front : take (number + 1) new ≡ take number old ++ step ∷ []
  pub there : number < length new
  pub no_more : (n : ℕ) → length old ≤ n → number < n → length new ≤ n
