-- What the table of untaken vertices keeps, while vertices are taken one after another.
use Rattle.std.specs.Prelude.{◌≡◌, ℕ, ◌<◌, Bool, true, false, not, ◌==◌, ◌&&◌, length, take, Option, None, Some, MatchOption, find, slice_index_or}
use Rattle.std.specs.List.{list_all}
use Rattle.tv_naming.specs.graphs.Graphs.{Graph, before, is_one_of}
use Rattle.tv_naming.specs.graphs.Free.{has}
use Rattle.tv_naming.specs.graphs.Waiting.{waiting_at, waiting_length}
use Rattle.tv_naming.specs.declared.graphs.untaken.Untaken.{Untaken}

abbrev pub is_taken : Untaken → ℕ → Bool
is_taken t v = slice_index_or t.taken.items v false

-- what v waits for: the first of those directly before it that isn't taken
abbrev pub awaited : Graph → (ℕ → Bool) → ℕ → Option ℕ
awaited g taken v = find (λ u. not (taken u)) (before g v)

-- whether v may be taken next
abbrev pub is_ready : Graph → (ℕ → Bool) → ℕ → Bool
is_ready g taken v = not (taken v) && list_all taken (before g v)

-- each untaken vertex that isn't pending is free or waits, and the free and the waiting are such
pub record IsKept (g : Graph) (pending taken free : ℕ → Bool) (waits : ℕ → ℕ → Bool) : Type 0 where
  pub free_is : (v : ℕ) → free v ≡ true → (v < length g) × (taken v ≡ false)
      × (awaited g taken v ≡ None)
  pub waits_is : (u v : ℕ) → waits u v ≡ true → taken u ≡ false → (v < length g) × (taken v ≡ false)
      × (awaited g taken v ≡ Some u)
  pub kept : (v : ℕ) → v < length g → taken v ≡ false → pending v ≡ false
      → MatchOption (awaited g taken v) (free v ≡ true) (λ u. waits u v ≡ true)

-- the lists have a place for each vertex, and what was passed is taken
pub record HasPlaces (g : Graph) (t : Untaken) : Type 0 where
  pub taken_length : length t.taken.items ≡ length g
  pub places_length : length t.places.items ≡ length g
  pub waiting_count : waiting_length t.waiting ≡ length g
  pub passed : (v : ℕ) → v < length g
      → list_all (is_taken t) (take (slice_index_or t.places.items v 0) (before g v)) ≡ true

abbrev pub IsTable : Graph → (ℕ → Bool) → Untaken → Type 0
IsTable g pending t = IsKept g pending (is_taken t) (has t.free)
    (λ u. is_one_of (waiting_at t.waiting u))

abbrev pub none : ℕ → Bool
none v = false

-- without x
abbrev pub but : (ℕ → Bool) → ℕ → ℕ → Bool
but pending x v = pending v && not (v == x)

-- whether u is what was given
abbrev pub is_given : Option ℕ → ℕ → Bool
is_given None u = false
is_given (Some v) u = u == v
