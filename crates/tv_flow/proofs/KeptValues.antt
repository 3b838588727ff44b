-- What a value that was read keeps.
use Rattle.std.specs.Prelude.{◌≡◌, ℕ, suc, [], Bool, true, false, ◌&&◌, nat_lt, is_some, if◌then◌else◌, Result, Ok, Err, refl}
use Rattle.std.proofs.Common.{ap, subst, ◌∙◌}
use Rattle.serde_json.specs.Data.{Data, Num, unsigned, negative, float, null, boolean, number, string, array, object, Items, no_items, item}
use Rattle.tv_value.specs.Nested.{Trees, no_trees, tree, count}
use Rattle.tv_value.specs.Values.{Value, Scalar, list_value}
use Rattle.tv_value.specs.DepthSets.{least_depth}
use Rattle.tv_value.specs.Readings.{ReadingComplaint, ragged, read, read_items, read_number, read_list, first_read, item_count, length_limit}
use Rattle.tv_flow.specs.Formed.{is_value, are_values}

ok : {A : Type 0} (a b : A) → ◌≡◌ {A = Result A ReadingComplaint} (Ok a) (Ok b) → a ≡ b
ok a b e = cc

never : {A : Type 0} {P : Type 0} (a : A) (c : ReadingComplaint) → ◌≡◌ {A = Result A ReadingComplaint} (Err c) (Ok a) → P
never a c e = absurd (cc)

number-kept : (n : Num) (v : Value) → read_number n ≡ Ok v → is_value v ≡ true
number-kept (unsigned n) v e = subst (λ w. is_value w ≡ true) (ok _ v e) refl
number-kept (negative z) v e = subst (λ w. is_value w ≡ true) (ok _ v e) refl
number-kept (float x) v e = never v _ e

module _ (n : ℕ) (vs : Trees (Unit {0}) Scalar) (v : Value) (kept : are_values vs ≡ true) (same : count vs ≡ n) where
  deep : (b c : Bool) → nat_lt n length_limit ≡ b → is_some (least_depth (list_value vs)) ≡ c → (if b then (if c then Ok (list_value vs) else Err (ragged [])) else Err (ragged [])) ≡ Ok v → is_value v ≡ true
  deep true true p q e =
      subst (λ w. is_value w ≡ true) (ok (list_value vs) v e)
      (ap (λ m. nat_lt m length_limit && is_some (least_depth (list_value vs)) && are_values vs) same
      ∙ ap (λ b. b && is_some (least_depth (list_value vs)) && are_values vs) p
      ∙ ap (λ b. b && are_values vs) q
      ∙ kept)
  deep true false p q e = never v _ e
  deep false c p q e = never v _ e

no-list : (b : Bool) (c d : ReadingComplaint) (v : Value) {P : Type 0} → (if b then Err c else Err d) ≡ Ok v → P
no-list true c d v e = never v c e
no-list false c d v e = never v d e

list-kept : (n : ℕ) (r : Result (Trees (Unit {0}) Scalar) ReadingComplaint) (v : Value) → ((vs : Trees (Unit {0}) Scalar) → r ≡ Ok vs → (are_values vs ≡ true) × (count vs ≡ n)) → (if nat_lt n length_limit then read_list r else Err (ragged [])) ≡ Ok v → is_value v ≡ true
list-kept n (Err c) v k e = no-list (nat_lt n length_limit) c (ragged []) v e
list-kept n (Ok vs) v k e = deep n vs v (k vs refl).0 (k vs refl).1 (nat_lt n length_limit) (is_some (least_depth (list_value vs))) refl refl e

first-kept : (i n : ℕ) (a : Result Value ReadingComplaint) (r : Result (Trees (Unit {0}) Scalar) ReadingComplaint) (vs : Trees (Unit {0}) Scalar) → ((v : Value) → a ≡ Ok v → is_value v ≡ true) → ((ws : Trees (Unit {0}) Scalar) → r ≡ Ok ws → (are_values ws ≡ true) × (count ws ≡ n)) → first_read i a r ≡ Ok vs → (are_values vs ≡ true) × (count vs ≡ suc n)
first-kept i n (Err c) r vs f g e = never vs _ e
first-kept i n (Ok v) (Err c) vs f g e = never vs _ e
first-kept i n (Ok v) (Ok ws) vs f g e =
    subst (λ ts. (are_values ts ≡ true) × (count ts ≡ suc n)) (ok (tree v ws) vs e) (ap (λ b. b && are_values ws) (f v refl) ∙ (g ws refl).0, ap suc (g ws refl).1)

mutual
  pub value-kept : (d : Data) (v : Value) → read d ≡ Ok v → is_value v ≡ true
  value-kept null v e = never v _ e
  value-kept (boolean b) v e = never v _ e
  value-kept (number n) v e = number-kept n v e
  value-kept (string s) v e = subst (λ w. is_value w ≡ true) (ok _ v e) refl
  value-kept (array ds) v e = list-kept (item_count ds) (read_items 0 ds) v (λ vs h. items-kept 0 ds vs h) e
  value-kept (object ms) v e = never v _ e

  items-kept : (i : ℕ) (ds : Items) (vs : Trees (Unit {0}) Scalar) → read_items i ds ≡ Ok vs → (are_values vs ≡ true) × (count vs ≡ item_count ds)
  items-kept i no_items vs e = subst (λ ts. (are_values ts ≡ true) × (count ts ≡ 0)) (ok no_trees vs e) (refl, refl)
  items-kept i (item d ds) vs e = first-kept i (item_count ds) (read d) (read_items (suc i) ds) vs (λ v h. value-kept d v h) (λ ws h. items-kept (suc i) ds ws h) e
