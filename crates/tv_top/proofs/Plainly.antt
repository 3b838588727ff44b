-- The result line speaks of values alone, and not of their origins.
use Rattle.std.specs.Prelude.{◌≡◌, List, [], ◌∷◌, ◌++◌, map, codes, refl}
use Rattle.std.proofs.Common.{ap, ◌∙◌}
use Rattle.serde_json.specs.Data.{Data, array, object, item}
use Rattle.serde_json.specs.Written.{compact_text}
use Rattle.tv_value.specs.Nested.{Tree, leaf, list, Trees, no_trees, tree, map_tree, map_trees}
use Rattle.tv_value.specs.Values.{Text, Name, Scalar, Value}
use Rattle.tv_value.specs.Printed.{json, all_json, members}
use Rattle.tv_strategy.specs.Origins.{Origin, Traced, plain}
use Rattle.tv_model.specs.Totals.{Totals}
use Rattle.tv_model.specs.Results.{totals_json}
use Rattle.tv_report.specs.ResultLines.{line_of_result}

module _ {N M : Type 0} (f : N → M) where
  mutual
    json-plain : (v : Tree N Scalar) → json (map_tree f (λ a. a) v) ≡ json v
    json-plain (leaf n a) = refl
    json-plain (list n ts) = ap array (all_json-plain ts)

    all_json-plain : (ts : Trees N Scalar) → all_json (map_trees f (λ a. a) ts) ≡ all_json ts
    all_json-plain no_trees = refl
    all_json-plain (tree t ts) = ap (λ d. item d (all_json (map_trees f (λ a. a) ts))) (json-plain t) ∙ ap (item (json t)) (all_json-plain ts)

abbrev put : {N : Type 0} → Name × Tree N Scalar → Text × Data
put o = (o.0, json o.1)

abbrev bare : Name × Traced → Name × Value
bare o = (o.0, plain o.1)

abbrev none : Origin → Unit {0}
none o = tt

put-bare : (o : Name × Traced) → put (bare o) ≡ put o
put-bare o = ap (λ d. (o.0, d)) (json-plain none o.1)

each-plain : (os : List (Name × Traced)) → map put (map bare os) ≡ map put os
each-plain [] = refl
each-plain (o ∷ os) = ap (λ p. p ∷ map put (map bare os)) (put-bare o) ∙ ap (λ ps. put o ∷ ps) (each-plain os)

abbrev around : Totals → List (Text × Data) → Text
around t ms = compact_text (object (members ((codes "outputs", object (members ms)) ∷ (codes "totals", totals_json t) ∷ []))) ++ 10 ∷ []

pub line-plain : (os : List (Name × Traced)) (t : Totals) → line_of_result (map bare os) t ≡ line_of_result os t
line-plain os t = ap (around t) (each-plain os)
