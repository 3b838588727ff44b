-- What a search that keeps out of visited vertices finds, and what it finds when the vertices are taken as they were left, the last first.
use Rattle.std.specs.Prelude.{◌≡◌, ℕ, Bool, true, false, not, ◌==◌, ◌||◌, ◌&&◌, List, length}
use Rattle.tv_naming.specs.graphs.Graphs.{Graph, before, is_one_of, comes_before, is_on_cycle}
use Rattle.tv_naming.specs.graphs.Leaving.{alike}

-- the search goes from one vertex to those of its list, and again from each of those that weren't visited
pub record IsGathered (after : ℕ → List ℕ) (from : ℕ) (was is : ℕ → Bool)
    (had has : List ℕ) : Type 0 where
  pub kept : (u : ℕ) → was u ≡ true → is u ≡ true
  pub first : (u : ℕ) → is_one_of (after from) u ≡ true → is u ≡ true
  pub next : (w u : ℕ) → is w ≡ true → was w ≡ false → is_one_of (after w) u ≡ true → is u ≡ true
  -- what holds of the first ones, and goes on from each to the next, holds of all that it visits
  pub sound :
      (p : ℕ → Bool) → ((u : ℕ) → is_one_of (after from) u ≡ true → p u ≡ true)
      → ((w u : ℕ) → p w ≡ true → is_one_of (after w) u ≡ true → p u ≡ true) →
      (u : ℕ) → is u ≡ true → was u ≡ false → p u ≡ true
  pub found : (u : ℕ) → is_one_of has u ≡ (is_one_of had u || (is u && not (was u)))

-- the lists of those directly after each vertex
abbrev pub AreTurned : Graph → (ℕ → List ℕ) → Type 0
AreTurned g after = (u v : ℕ) → is_one_of (after u) v ≡ is_one_of (before g v) u

-- the vertices alike to one that is visited are visited too, and those on cycles are found
pub record IsVisited (g : Graph) (visited : ℕ → Bool) (found : List ℕ) : Type 0 where
  pub closed : (u v : ℕ) → visited u ≡ true → alike g u v ≡ true → visited v ≡ true
  pub found_are : (u : ℕ) → is_one_of found u ≡ (visited u && is_on_cycle g u)

-- r was left later than the others that aren't visited
abbrev pub IsLatest : Graph → (ℕ → Bool) → ℕ → Type 0
IsLatest g visited r = (v : ℕ) → comes_before g (length g) r v ≡ true → (w : ℕ)
    × (alike g w v ≡ true) × (((w == r) || visited w) ≡ true)
