-- The tokens of lists, piece by piece.
use Rattle.std.specs.Prelude.{◌≡◌, List, [], ◌∷◌, ◌++◌, map, flat_map, refl}
use Rattle.std.proofs.Common.{ap, ◌∙◌, sym, append_assoc}
use Rattle.json.specs.Token.{key, string, end_array, end_object}
use Rattle.tv_value.specs.Nested.{trees_of}
use Rattle.tv_value.specs.Values.{Name, JobName}
use Rattle.tv_value.specs.Printed.{json, all_json, job_text, members, strings}
use Rattle.tv_value.specs.Views.{view}
use Rattle.tv_value.specs.declared.value.Value.{Value}
use Rattle.tv_flow.specs.Views.{each}
use Rattle.tv_report.specs.Tokens.{tokens_of, tokens_of_items, tokens_of_members, value_member}

pub values-tokens : (vs : List Value) → tokens_of_items (all_json (trees_of (map view vs))) ≡ flat_map (λ v. tokens_of (json (view v))) vs ++ end_array ∷ []
values-tokens [] = refl
values-tokens (v ∷ vs) =
    let ts = tokens_of (json (view v)) in
    ap (λ s. ts ++ s) (values-tokens vs) ∙ sym (append_assoc ts (flat_map (λ w. tokens_of (json (view w))) vs) (end_array ∷ []))

pub names-tokens : (ns : List JobName) → tokens_of_items (strings (map job_text ns)) ≡ flat_map (λ n. string (job_text n) ∷ []) ns ++ end_array ∷ []
names-tokens [] = refl
names-tokens (n ∷ ns) = ap (λ s. string (job_text n) ∷ s) (names-tokens ns)

pub members-tokens : (os : List (Name × Value)) → tokens_of_members (members (map (λ o. (o.0, json o.1)) (each view os))) ≡ flat_map (λ o. value_member (o.0, view o.1)) os ++ end_object ∷ []
members-tokens [] = refl
members-tokens (o ∷ os) =
    let ts = tokens_of (json (view o.1)) in
    ap (λ s. key o.0 ∷ (ts ++ s)) (members-tokens os)
    ∙ ap (λ s. key o.0 ∷ s) (sym (append_assoc ts (flat_map (λ p. value_member (p.0, view p.1)) os) (end_object ∷ [])))
