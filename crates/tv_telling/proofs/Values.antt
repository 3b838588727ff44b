-- What is told of a value, item by item.
use Rattle.std.specs.List.{list_any}
use Rattle.std.specs.Prelude.{◌≡◌, Bool, false, true, ℕ, zero, suc, ◌+◌, ◌-◌, ◌<◌, ◌≤◌, List, [], ◌∷◌, ◌++◌, map, take, drop, length}
use Rattle.std.proofs.lemmas.Bool.{false_from_ne_true}
use Rattle.std.proofs.lemmas.List.Folds.{list_any_at}
use Rattle.std.proofs.Common.{arith, get_or, ap, sym, subst, true≢false, ◌∙◌, append_assoc, append-nil, length-append}
use Rattle.std.proofs.Math.Seq.{take-append_seam}
use Rattle.std.proofs.lemmas.List.{drop_all}
use Rattle.std.proofs.Math.Numerals.{suc-eq-add-one}
use Rattle.tv_lemmas.proofs.Numbers.{none-below}
use Rattle.tv_value.specs.Nested.{Place, Trees, count, list, trees_of}
use Rattle.tv_value.specs.Values.{Name, Scalar, Value}
use Rattle.tv_matching.specs.Told.{Told, close}
use Rattle.tv_telling.specs.ValueTellings.{value_told, values_told}

-- a place without its last index
pub popped : (q all : Place) (i n : ℕ) → all ≡ q ++ i ∷ [] → n ≡ length all → take (n - 1) all ≡ q
popped q all i n e l =
    let m : n - 1 ≡ length q = omega (arith, l, ap length e, length-append q (i ∷ [])) in
    (λ k. take (m k) (e k)) ∙ take-append_seam q (i ∷ [])

-- where none of a list passes a test, its items don't
pub none-at : {X : Type 0} (p : X → Bool) (xs : List X) (i : ℕ) (x : X) → i < length xs
    → x ≡ get_or xs i x → list_any p xs ≡ false → p x ≡ false
none-at p xs i x k e h =
    false_from_ne_true (p x) (λ t. true≢false (sym (list_any_at p xs i x k (subst (λ y. p y ≡ true) e t)) ∙ h))

-- the walk of a list is its length, and then its items
pub list-told : (p : Name) (k n : ℕ) (q r : Place) (v : Value) (ts : Trees (Unit {0}) Scalar) → 0 < k → r ≡ q → v ≡ list tt ts → n ≡ count ts → close p r n ∷ values_told p (k - 1) q 0 ts ≡ value_told p k q v
list-told p zero n q r v ts h a e c = none-below 0 h
list-told p (suc k) n q r v ts h a e c =
    let one : suc k - 1 ≡ k = omega arith in
    (λ i. close p (a i) (c i) ∷ values_told p (one i) q 0 ts) ∙ ap (value_told p (suc k) q) (sym e)

module _ {X : Type 0} (f : X → Value) (p : Name) (k : ℕ) (q : Place) where
  -- the items from number i on
  abbrev pub told_rest : List X → ℕ → List Told
  told_rest xs i = values_told p k q i (trees_of (map f (drop i xs)))

  rest-here : (xs : List X) (i j : ℕ) (x : X) → i < length xs → x ≡ get_or xs i x → values_told p k q j (trees_of (map f (drop i xs))) ≡ value_told p k (q ++ j ∷ []) (f x) ++ values_told p k q (suc j) (trees_of (map f (drop (suc i) xs)))
  rest-here [] i j x h e = none-below i h
  rest-here (y ∷ xs) zero j x h e = ap (λ z. value_told p k (q ++ j ∷ []) (f z) ++ values_told p k q (suc j) (trees_of (map f xs))) (sym e)
  rest-here (y ∷ xs) (suc i) j x h e = rest-here xs i j x (omega arith) e

  -- one more of them
  pub rest-step : (before : List Told) (xs : List X) (i : ℕ) (x : X) → i < length xs → x ≡ get_or xs i x → (before ++ value_told p k (q ++ i ∷ []) (f x)) ++ told_rest xs (i + 1) ≡ before ++ told_rest xs i
  rest-step before xs i x h e =
      append_assoc before (value_told p k (q ++ i ∷ []) (f x)) (told_rest xs (i + 1))
      ∙ ap (λ j. before ++ (value_told p k (q ++ i ∷ []) (f x) ++ told_rest xs j)) (sym (suc-eq-add-one i))
      ∙ ap (λ t. before ++ t) (sym (rest-here xs i i x h e))

  pub rest-end : (before : List Told) (xs : List X) (i : ℕ) → length xs ≤ i → before ++ told_rest xs i ≡ before
  rest-end before xs i h = ap (λ ys. before ++ values_told p k q i (trees_of (map f ys))) (drop_all i xs h) ∙ append-nil before
