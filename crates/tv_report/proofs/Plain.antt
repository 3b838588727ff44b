-- Paths have no floats.
use Rattle.std.specs.Prelude.{◌≡◌, List, [], ◌∷◌, map, false, refl}
use Rattle.serde_json.specs.View.{items_of}
use Rattle.serde_json.specs.Written.{has_float, items_have_float}
use Rattle.tv_flow.specs.declared.faults.Part.{Part}
use Rattle.tv_flow.specs.declared.faults.Part.TheVariants.{Key, Index}
use Rattle.tv_report.specs.FormLines.{part_json, path_json}

parts-plain : (ps : List Part) → items_have_float (items_of (map part_json ps)) ≡ false
parts-plain [] = refl
parts-plain (Key k ∷ ps) = parts-plain ps
parts-plain (Index i ∷ ps) = parts-plain ps

pub path-plain : (ps : List Part) → has_float (path_json ps) ≡ false
path-plain ps = parts-plain ps
