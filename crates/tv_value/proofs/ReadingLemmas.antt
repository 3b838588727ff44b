-- Reading a list of JSON trees, item by item.
use Rattle.std.specs.Prelude.{◌≡◌, ℕ, zero, suc, drop, ◌+◌, ◌<◌, ◌≤◌, ◌^◌, List, [], ◌∷◌, ◌++◌, length, refl, Result, Ok, Err, nat_lt, if◌then◌else◌}
use Rattle.std.proofs.Common.{arith, get_or, ap, sym, subst, ◌∙◌, add-one}
use Rattle.std.proofs.lemmas.List.{drop_all}
use Rattle.tv_value.specs.declared.reading.ValueFault.{ValueFault}
use Rattle.tv_value.specs.declared.reading.ValueFault.TheVariants.{NotText, Ragged, NoMemory}
use Rattle.tv_value.specs.Answers.{IsFault}
use Rattle.std.proofs.lemmas.Bool.{lt-ltb, le-ltb}
use Rattle.serde_json.specs.Data.{array, item}
use Rattle.serde_json.specs.View.{view as json_view, items_view as json_items}
use Rattle.serde_json.specs.declared.value.Value.{Value as Json}
use Rattle.tv_value.specs.Nested.{Trees, no_trees, trees_of}
use Rattle.tv_value.specs.Values as spec
use Rattle.tv_value.specs.Values.{Scalar}
use Rattle.tv_value.specs.Readings.{ReadingComplaint, read, read_items, read_list, first_read, item_count, length_limit, ragged}

pub item_count-each : (xs : List Json) → item_count (json_items xs) ≡ length xs
item_count-each [] = refl
item_count-each (x ∷ xs) = ap suc (item_count-each xs)

-- the values read so far, before what the rest gives
abbrev pub put_before : List spec.Value → Result (Trees (Unit {0}) Scalar) ReadingComplaint → Result (Trees (Unit {0}) Scalar) ReadingComplaint
put_before vs (Err c) = Err c
put_before [] (Ok ts) = Ok ts
put_before (v ∷ vs) (Ok ts) = first_read 0 (Ok v) (put_before vs (Ok ts))

pub put_before-push : (vs : List spec.Value) (v : spec.Value) (i : ℕ) (r : Result (Trees (Unit {0}) Scalar) ReadingComplaint) → put_before (vs ++ v ∷ []) r ≡ put_before vs (first_read i (Ok v) r)
put_before-push vs v i (Err c) = refl
put_before-push [] v i (Ok ts) = refl
put_before-push (u ∷ vs) v i (Ok ts) = ap (λ r. first_read 0 (Ok u) r) (put_before-push vs v i (Ok ts))

pub put_before-end : (vs : List spec.Value) → put_before vs (Ok no_trees) ≡ Ok (trees_of vs)
put_before-end [] = refl
put_before-end (v ∷ vs) = ap (λ r. first_read 0 (Ok v) r) (put_before-end vs)

short : (n : ℕ) (x y : Result spec.Value ReadingComplaint) → n < 2 ^ 32 → (if nat_lt n length_limit then x else y) ≡ x
short n x y h = subst (λ b. (if b then x else y) ≡ x) (sym (lt-ltb n (2 ^ 32) h)) refl

long : (n : ℕ) (x y : Result spec.Value ReadingComplaint) → 2 ^ 32 ≤ n → (if nat_lt n length_limit then x else y) ≡ y
long n x y h = subst (λ b. (if b then x else y) ≡ y) (sym (le-ltb n (2 ^ 32) h)) refl

pub read_short : (xs : List Json) → length xs < 2 ^ 32 → read (array (json_items xs)) ≡ read_list (read_items 0 (json_items xs))
read_short xs h = short (item_count (json_items xs)) _ _ (subst (λ n. n < 2 ^ 32) (sym (item_count-each xs)) h)

pub read_long : (xs : List Json) → 2 ^ 32 ≤ length xs → read (array (json_items xs)) ≡ Err (ragged [])
read_long xs h = long (item_count (json_items xs)) (read_list (read_items 0 (json_items xs))) (Err (ragged [])) (subst (λ n. 2 ^ 32 ≤ n) (sym (item_count-each xs)) h)

pub item-at : (xs : List Json) (i : ℕ) (d : Json) → i < length xs → json_items (drop i xs) ≡ item (json_view (get_or xs i d)) (json_items (drop (suc i) xs))
item-at [] zero d h = absurd (empty h)
  where
    empty : 0 < 0 → ⊥
    empty p = omega arith
item-at [] (suc i) d h = absurd (empty i h)
  where
    empty : (i : ℕ) → suc i < 0 → ⊥
    empty i p = omega arith
item-at (x ∷ xs) zero d h = refl
item-at (x ∷ xs) (suc i) d h = item-at xs i d (omega arith)

pub read_step : (xs : List Json) (i : ℕ) (d : Json) (vs : List spec.Value) (v : spec.Value) → i < length xs → read (json_view (get_or xs i d)) ≡ Ok v → put_before vs (read_items i (json_items (drop i xs))) ≡ put_before (vs ++ v ∷ []) (read_items (i + 1) (json_items (drop (i + 1) xs)))
read_step xs i d vs v h e =
    let rest = json_items (drop (suc i) xs) in
    ap (λ js. put_before vs (read_items i js)) (item-at xs i d h)
    ∙ ap (λ r. put_before vs (first_read i r (read_items (suc i) rest))) e
    ∙ sym (put_before-push vs v i (read_items (suc i) rest))
    ∙ ap (λ k. put_before (vs ++ v ∷ []) (read_items k (json_items (drop k xs)))) (sym (add-one i))

pub read_end : (xs : List Json) (i : ℕ) (vs : List spec.Value) → length xs ≤ i → put_before vs (read_items i (json_items (drop i xs))) ≡ Ok (trees_of vs)
read_end xs i vs h = ap (λ ys. put_before vs (read_items i (json_items ys))) (drop_all i xs h) ∙ put_before-end vs

pub fault_through : (f : ValueFault) (r : Result (Trees (Unit {0}) Scalar) ReadingComplaint) → IsFault f r → IsFault f (read_list r)
fault_through (NotText p) r h = ap read_list h
fault_through (Ragged p) r h = ap read_list h
fault_through NoMemory r h = tt
