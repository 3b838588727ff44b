-- Levels by step and place.
use Rattle.std.specs.Prelude.{◌≡◌, ◌<◌, ◌⊎◌, ◌++◌, ◌∷◌, ℕ, suc, Bool, true, List, Option, Some, None}
use Rattle.tv_lemmas.specs.Members.{In}
use Rattle.tv_value.specs.Nested.{Place}
use Rattle.tv_frame.specs.Levels.{IsAmong, Level, What, closed}

-- the level that this tells of a place is one of them
pub record IsFrom (ls : List Level) (n : ℕ) (q : Place) (w : What) : Type 0 where
  pub level : Level
  pub among : In level ls
  pub of_step : level.step ≡ n
  pub place : level.place ≡ q
  pub is : level.what ≡ w

-- this tells of each of them, by step and place, and of nothing else
pub record IsTableOf (ls : List Level) (what : ℕ → Place → Option What) : Type 0 where
  pub told : (l : Level) → In l ls → (w : What) × (what l.step l.place ≡ Some w)
  pub from : (n : ℕ) (q : Place) (w : What) → what n q ≡ Some w → IsFrom ls n q w

-- ---- lists that grow

-- a level or a settled job stands there
abbrev pub IsThere : List Level → List (ℕ × Place) → ℕ → Place → Type 0
IsThere ls js n q = IsAmong ls n q ⊎ In (n, q) js

-- something stands in the list at q, at item i or behind
pub record IsInside (ls : List Level) (js : List (ℕ × Place)) (n : ℕ) (q : Place) (m : ℕ)
    : Type 0 where
  pub index : ℕ
  pub rest : Place
  pub there : IsThere ls js n (q ++ index ∷ rest)
  pub last : m ≡ suc index

-- this tells of each list in which one of them stands, as long as the last of them tells
pub record AreGrown (ls : List Level) (js : List (ℕ × Place)) (grown : ℕ → Place → Option What)
    : Type 0 where
  pub told :
      (n : ℕ) (q : Place) (i : ℕ) (p : Place) → IsThere ls js n (q ++ i ∷ p)
      → (m : ℕ) × (grown n q ≡ Some (closed m)) × (i < m)
  pub from :
      (n : ℕ) (q : Place) (w : What) → grown n q ≡ Some w
      → (m : ℕ) × (w ≡ closed m) × IsInside ls js n q m

-- and this of each of these jobs
pub record AreDone (js : List (ℕ × Place)) (done : ℕ → Place → Bool) : Type 0 where
  pub told : (n : ℕ) (q : Place) → In (n, q) js → done n q ≡ true
  pub from : (n : ℕ) (q : Place) → done n q ≡ true → In (n, q) js

-- the one, or where it tells nothing the other
abbrev pub or_else : Option What → Option What → Option What
or_else None b = b
or_else (Some w) b = Some w

abbrev pub told_or : (ℕ → Place → Option What) → (ℕ → Place → Option What) → ℕ → Place
    → Option What
told_or what grown n q = or_else (what n q) (grown n q)
