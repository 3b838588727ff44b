-- The order in which a search leaves vertices: it enters each once, goes on to those directly before it, and leaves it then.
use Rattle.std.specs.Prelude.{◌≡◌, ◌⊎◌, ℕ, ◌+◌, ◌<◌, Bool, true, false, ◌==◌, ◌||◌, ◌&&◌, List, [], ◌∷◌, length, cond}
use Rattle.tv_naming.specs.graphs.Graphs.{Graph, before, is_one_of, comes_before}

-- one vertex, or two of which each comes before the other
abbrev pub alike : Graph → ℕ → ℕ → Bool
alike g w v = (w == v) || (comes_before g (length g) w v && comes_before g (length g) v w)

-- how often a vertex stands in a list
abbrev pub times : List ℕ → ℕ → ℕ
times [] u = 0
times (v ∷ vs) u = cond (u == v) 1 0 + times vs u

-- w stands where u does, or later
abbrev pub is_late : List ℕ → ℕ → ℕ → Bool
is_late [] u w = false
is_late (v ∷ vs) u w = ((u == v) && is_one_of (v ∷ vs) w) || is_late vs u w

-- whatever comes before v is left no later than one that is alike to v
abbrev pub IsSettled : Graph → List ℕ → ℕ → Type 0
IsSettled g left v = (u : ℕ) → comes_before g (length g) u v ≡ true → (w : ℕ) × (alike g w v ≡ true)
    × (is_late left u w ≡ true)

-- each comes before those that stand before it in the list
abbrev pub IsWay : Graph → List ℕ → Type 0
IsWay g [] = Unit {0}
IsWay g (w ∷ ws) = ((u : ℕ) → is_one_of ws u ≡ true → comes_before g (length g) u w ≡ true)
    × IsWay g ws

-- while the search goes on: those on its path are entered and not left, and one that is left is settled or alike to one on the path
pub record IsWalked (g : Graph) (entered : ℕ → Bool) (path left : List ℕ) : Type 0 where
  pub each_once : (u : ℕ) → times path u + times left u ≡ cond (entered u) 1 0
  pub within : (u : ℕ) → entered u ≡ true → u < length g
  pub way : IsWay g path
  pub closed : (v u : ℕ) → is_one_of left v ≡ true → is_one_of (before g v) u ≡ true → entered u
      ≡ true
  pub settled : (v : ℕ) → is_one_of left v ≡ true → ((w : ℕ) × (is_one_of path w ≡ true)
      × (alike g w v ≡ true)) ⊎ IsSettled g left v

-- when it is over
pub record IsLeft (g : Graph) (left : List ℕ) : Type 0 where
  pub each_once : (u : ℕ) → u < length g → times left u ≡ 1
  pub within : (u : ℕ) → is_one_of left u ≡ true → u < length g
  pub settled : (v : ℕ) → v < length g → IsSettled g left v
