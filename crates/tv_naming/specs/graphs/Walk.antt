-- What a search keeps of its vertices.
use Rattle.std.specs.Prelude.{◌≡◌, ℕ, ◌<◌, Bool, true, false, length, take, slice_index_or}
use Rattle.std.specs.List.{list_all}
use Rattle.tv_naming.specs.graphs.Graphs.{Graph, before}
use Rattle.tv_naming.specs.declared.graphs.walk.Walk.{Walk}

abbrev pub is_entered : Walk → ℕ → Bool
is_entered s v = slice_index_or s.entered.items v false

-- the lists have a place for each vertex, and what was passed is entered
pub record HasMarks (g : Graph) (s : Walk) : Type 0 where
  pub entered_length : length s.entered.items ≡ length g
  pub places_length : length s.places.items ≡ length g
  pub passed : (v : ℕ) → v < length g
      → list_all (is_entered s) (take (slice_index_or s.places.items v 0) (before g v)) ≡ true
