-- The first unknown key of an object, from the keys of a map.
use Rattle.std.specs.Prelude.{◌≡◌, ℕ, List, [], ◌∷◌, map, Bool, true, false, not, ◌||◌, if◌then◌else◌, Option, Some, option_map, String, string_bytes, refl}
use Rattle.std.specs.List.{list_any, find}
use Rattle.std.specs.Map.{keys_of}
use Rattle.std.specs.declared.alloc.Global.{Global}
use Rattle.std.proofs.Common.{Bor, ap, sym, ◌∙◌}
use Rattle.serde_json.specs.View.{members_view}
use Rattle.serde_json.specs.declared.value.Value.{Value as Json}
use Rattle.tv_value.specs.Values.{Text}
use Rattle.tv_value.specs.Orders.{same_name}
use Rattle.tv_flow.specs.Forms.{unknown_key}

abbrev pub field_names : List (Bor (List ℕ)) → List Text
field_names fs = map (λ f. f.now) fs

abbrev pub is_field : List (Bor (List ℕ)) → Text → Bool
is_field fs k = list_any (λ f. same_name k f.now) fs

field-each : (fs : List (Bor (List ℕ))) (k : Text) → list_any (same_name k) (field_names fs) ≡ is_field fs k
field-each [] k = refl
field-each (f ∷ fs) k = ap (λ b. same_name k f.now || b) (field-each fs k)

abbrev pub first_key : List (Bor (List ℕ)) → List (String Global) → Option Text
first_key fs ks = option_map string_bytes (find (λ k. not (is_field fs (string_bytes k))) ks)

step : (b : Bool) (k : String Global) (o : Option (String Global)) (r : Option Text) → option_map string_bytes o ≡ r → option_map string_bytes (if not b then Some k else o) ≡ (if b then r else Some (string_bytes k))
step true k o r e = e
step false k o r e = refl

pub first_key-unknown : (fs : List (Bor (List ℕ))) (es : List (String Global × Json)) → first_key fs (keys_of es) ≡ unknown_key (field_names fs) (members_view es)
first_key-unknown fs [] = refl
first_key-unknown fs (e ∷ es) =
    step (is_field fs (string_bytes e.0)) e.0 (find (λ k. not (is_field fs (string_bytes k))) (keys_of es)) (unknown_key (field_names fs) (members_view es)) (first_key-unknown fs es)
    ∙ ap (λ b. if b then unknown_key (field_names fs) (members_view es) else Some (string_bytes e.0)) (sym (field-each fs (string_bytes e.0)))
