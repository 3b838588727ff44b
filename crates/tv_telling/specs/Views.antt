-- The ways and events of the code, as the definitions have them.
use Rattle.std.specs.Prelude.{get_or, [], ◌≡◌, ℕ, ◌<◌, ◌≤◌, false, List, ◌++◌, length, map, slice_get, unwrap_or}
use Rattle.tv_value.specs.Nested.{list, no_trees}
use Rattle.tv_value.specs.Strategies.{Strategy}
use Rattle.tv_value.specs.Values.{holds_fault}
use Rattle.tv_matching.specs.Matchers.{leaf_name}
use Rattle.tv_matching.specs.Told.{Told}
use Rattle.tv_match.specs.declared.told.Told as code
use Rattle.tv_match.specs.Seen.{told_view}
use Rattle.tv_cell.specs.PieceValues.{piece_value}
use Rattle.tv_telling.specs.declared.ways.Event.{Event}
use Rattle.tv_telling.specs.declared.ways.Happened.{Happened}
use Rattle.tv_telling.specs.declared.ways.Happened.TheVariants.{Gave, Closed, Passed}
use Rattle.tv_telling.specs.declared.ways.Way.{Way}
use Rattle.tv_telling.specs.declared.ways.Whole.{Whole}
use Rattle.tv_telling.specs.ValueTellings.{bound_told}
use Rattle.tv_telling.specs.WayTellings.{Happening, gave, closed, passed, place_of_item, told_on_way}

-- there is such an output
abbrev pub HasPiece : Happened → ℕ → Type 0
HasPiece (Gave ps) k = k < length ps.now
HasPiece (Closed n) k = Unit {0}
HasPiece Passed k = Unit {0}

-- as the k-th output has it
abbrev pub happening : Happened → ℕ → Happening
happening (Gave ps) k = gave (unwrap_or (slice_get (map piece_value ps.now) k) (list tt no_trees))
happening (Closed n) k = closed n
happening Passed k = passed

-- no value came that holds a fault
abbrev pub IsFaultless : Happening → Type 0
IsFaultless (gave w) = holds_fault w ≡ false
IsFaultless (closed n) = Unit {0}
IsFaultless passed = Unit {0}

-- there is such an output, and no value came at it that holds a fault where none is counted at the event's own place
pub record HasOutput (e : Event) (k : ℕ) : Type 0 where
  pub counted : k < length e.faults.now
  pub piece : HasPiece e.happened k
  pub faultless : get_or e.faults.now k 0 ≤ length e.place.now
      → IsFaultless (happening e.happened k)

-- what the port at the end of a way is told with an event
abbrev pub way_tellings : Strategy → Event → Way → List Told
way_tellings s e w =
    told_on_way
    (leaf_name s w.leaf) w.levels (place_of_item w.item) e.whole_from (get_or e.faults.now w.output
    0) e.place.now
    (happening e.happened w.output)

-- that a port has its whole value
abbrev pub whole_telling : Strategy → Whole → Told
whole_telling s w = bound_told (leaf_name s w.leaf) [] w.faulty

-- whatever strategy has the leaf, these are the tellings before, and then those that are made of its name
abbrev pub AddsTellings : List code.Told → List code.Told → (Strategy → List Told) → Type 0
AddsTellings before after more = (s : Strategy) → map (told_view s) after ≡ map (told_view s) before
    ++ more s

abbrev pub AreTellings : List code.Told → (Strategy → List Told) → Type 0
AreTellings ts tellings = (s : Strategy) → map (told_view s) ts ≡ tellings s
