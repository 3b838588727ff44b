-- Lists of JSON trees, item by item.
use Rattle.std.specs.Prelude.{◌≡◌, suc, List, [], ◌∷◌, length, map, refl}
use Rattle.std.proofs.Common.{ap}
use Rattle.serde_json.specs.Data.{string, item}
use Rattle.serde_json.specs.View.{items_of}
use Rattle.tv_value.specs.Nested.{trees_of}
use Rattle.tv_value.specs.Values.{Text}
use Rattle.tv_value.specs.declared.value.Value.{Value}
use Rattle.tv_value.specs.Views.{view}
use Rattle.tv_value.specs.Strategies.{Strategy}
use Rattle.tv_value.specs.Views.{strategies_of}
use Rattle.tv_json.specs.Documents.{tree_json, all_trees}
use Rattle.tv_value.specs.Printed.{json, all_json, strings}

pub strings-each : {X : Type 0} (f : X → Text) (xs : List X) → items_of (map (λ x. string (f x)) xs) ≡ strings (map f xs)
strings-each f [] = refl
strings-each f (x ∷ xs) = ap (item (string (f x))) (strings-each f xs)

pub all_json-each : (vs : List Value) → items_of (map (λ v. json (view v)) vs) ≡ all_json (trees_of (map view vs))
all_json-each [] = refl
all_json-each (v ∷ vs) = ap (item (json (view v))) (all_json-each vs)

pub map-twice : {A B C : Type 0} (f : A → B) (g : B → C) (xs : List A) → map (λ x. g (f x)) xs ≡ map g (map f xs)
map-twice f g [] = refl
map-twice f g (x ∷ xs) = ap (λ ys. g (f x) ∷ ys) (map-twice f g xs)

pub trees-each : (ts : List Strategy) → items_of (map tree_json ts) ≡ all_trees (strategies_of ts)
trees-each [] = refl
trees-each (t ∷ ts) = ap (item (tree_json t)) (trees-each ts)

pub length-each : {A B N : Type 0} (f : A → B) (es : List (N × A)) → length {A = N × B} (map (λ e. (e.0, f e.1)) es) ≡ length es
length-each f [] = refl
length-each f (e ∷ es) = ap suc (length-each f es)
