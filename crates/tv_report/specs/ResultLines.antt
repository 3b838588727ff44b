-- The result line, of outputs by name and totals.
use Rattle.std.specs.Prelude.{List, [], ◌∷◌, ◌++◌, map, codes}
use Rattle.serde_json.specs.Data.{Data, object}
use Rattle.serde_json.specs.Written.{compact_text}
use Rattle.tv_value.specs.Nested.{Tree}
use Rattle.tv_value.specs.Values.{Text, Name, Scalar}
use Rattle.tv_value.specs.Printed.{json, members}
use Rattle.tv_model.specs.Totals.{Totals}
use Rattle.tv_model.specs.Results.{totals_json}

-- the outputs and the totals as JSON
abbrev pub result_json : {N : Type 0} → List (Name × Tree N Scalar) → Totals → Data
result_json os t =
    object (members ((codes "outputs", object (members (map (λ o. (o.0, json o.1)) os)))
    ∷ (codes "totals", totals_json t) ∷ []))

-- what a document means is printed by `result_line`, which is this line of its outputs and totals
abbrev pub line_of_result : {N : Type 0} → List (Name × Tree N Scalar) → Totals → Text
line_of_result os t = compact_text (result_json os t) ++ 10 ∷ []
