-- Each text of one list before each of another, and how many of these the step g refuses.
use Rattle.std.specs.List.{range_with_len}
use Rattle.std.specs.Prelude.{Bool, List, [], codes, cond, decimal, false, filter, flat_map, if◌then◌else◌, length, map, refl, suc, true, zero, ℕ, ◌&&◌, ◌*◌, ◌+◌, ◌++◌, ◌<◌, ◌≤◌, ◌^◌, ◌∷◌, ◌≡◌}
use Rattle.std.proofs.Common.{ap, ap₂, arith, length-append, sym, ◌∙◌}
use Rattle.std.proofs.lemmas.Fmt.{decimal_nonempty}
use Rattle.std.proofs.lemmas.List.{length-map, map-append}
use Rattle.std.proofs.lemmas.List.Elements.{filter-append}
use Rattle.tv_lemmas.specs.Members.{Each}
use Rattle.tv_value.specs.Orders.{same_name}
use Rattle.tv_value.specs.Values.{Text}
use Rattle.tv_model.specs.RowsOfSize.{inner_text, is_tenth, outer_text}

abbrev pub pairs : List Text → List Text → List Text
pairs us vs = flat_map (λ u. map (λ v. u ++ v) vs) us

abbrev pub is_true : Text → Bool
is_true t = same_name t (codes "true")

module _ {B : Type 0} (h : Text → B) (vs : List Text) where
  row : (u : Text) (ws : List Text) → flat_map (λ v. h (u ++ v) ∷ []) ws ≡ map h (map (λ v. u ++ v) ws)
  row u [] = refl
  row u (w ∷ ws) = ap (λ l. h (u ++ w) ∷ l) (row u ws)

  pub of-pairs : (us : List Text) → flat_map (λ u. flat_map (λ v. h (u ++ v) ∷ []) vs) us ≡ map h (pairs us vs)
  of-pairs [] = refl
  of-pairs (u ∷ us) = ap₂ (λ a b. a ++ b) (row u vs) (of-pairs us) ∙ sym (map-append h (map (λ v. u ++ v) vs) (pairs us vs))

pub length-pairs : (us vs : List Text) → length (pairs us vs) ≡ length us * length vs
length-pairs [] vs = omega arith
length-pairs (u ∷ us) vs =
    let a = length-append (map (λ v. u ++ v) vs) (pairs us vs) in
    let b = length-map vs (λ v. u ++ v) in
    let c = length-pairs us vs in a ∙ ap₂ (λ x y. x + y) b c ∙ more (length us) (length vs)
  where
    more : (a b : ℕ) → b + a * b ≡ suc a * b
    more a b = omega arith

-- ---- the texts `true` among them

not-true : (ds : List ℕ) → 0 < length ds → is_true (codes "true" ++ ds) ≡ false
not-true [] h = absurd (omega (arith, h))
not-true (d ∷ ds) h = refl

both : (i j : ℕ) → 0 < length (decimal j) → is_true (outer_text i ++ inner_text j) ≡ (is_tenth i && is_tenth j)
both i j h = by (is_tenth i) (is_tenth j)
  where
    by : (a b : Bool) → is_true ((if a then codes "true" else codes "x" ++ decimal i) ++ (if b then [] else decimal j)) ≡ (a && b)
    by true true = refl
    by true false = not-true (decimal j) h
    by false b = refl

counted : {A : Type 0} (b : Bool) (x : A) (xs : List A) → length (cond b (x ∷ xs) xs) ≡ cond b 1 0 + length xs
counted true x xs = omega arith
counted false x xs = omega arith

abbrev Small : ℕ → Type 0
Small j = 0 < length (decimal j)

one-row : (i : ℕ) (js : List ℕ) → Each Small js → length (filter is_true (map (λ v. outer_text i ++ v) (map inner_text js))) ≡ cond (is_tenth i) (length (filter is_tenth js)) 0
one-row i [] e = by (is_tenth i)
  where
    by : (b : Bool) → length {A = Text} [] ≡ cond b (length {A = ℕ} []) 0
    by true = refl
    by false = refl
one-row i (j ∷ js) e =
    counted (is_true (outer_text i ++ inner_text j)) (outer_text i ++ inner_text j) (filter is_true (map (λ v. outer_text i ++ v) (map inner_text js)))
    ∙ ap₂ (λ b n. cond b 1 0 + n) (both i j e.0) (one-row i js e.1)
    ∙ by (is_tenth i) (is_tenth j)
  where
    by : (a b : Bool) → cond (a && b) 1 0 + cond a (length (filter is_tenth js)) 0 ≡ cond a (length (cond b (j ∷ filter is_tenth js) (filter is_tenth js))) 0
    by true b = sym (counted b j (filter is_tenth js))
    by false b = omega arith

pub all-rows : (is js : List ℕ) → Each Small js → length (filter is_true (pairs (map outer_text is) (map inner_text js))) ≡ length (filter is_tenth is) * length (filter is_tenth js)
all-rows [] js e = omega arith
all-rows (i ∷ is) js e =
    ap length (filter-append is_true (map (λ v. outer_text i ++ v) (map inner_text js)) (pairs (map outer_text is) (map inner_text js)))
    ∙ length-append (filter is_true (map (λ v. outer_text i ++ v) (map inner_text js))) (filter is_true (pairs (map outer_text is) (map inner_text js)))
    ∙ ap₂ (λ a b. a + b) (one-row i js e) (all-rows is js e)
    ∙ by (is_tenth i)
  where
    by : (b : Bool) → cond b (length (filter is_tenth js)) 0 + length (filter is_tenth is) * length (filter is_tenth js) ≡ length (cond b (i ∷ filter is_tenth is) (filter is_tenth is)) * length (filter is_tenth js)
    by true = more (length (filter is_tenth is)) (length (filter is_tenth js))
      where
        more : (a b : ℕ) → b + a * b ≡ suc a * b
        more a b = omega arith
    by false = none (length (filter is_tenth is) * length (filter is_tenth js))
      where
        none : (a : ℕ) → 0 + a ≡ a
        none a = omega arith

pub small-range : (a n : ℕ) → a + n ≤ 2 ^ 64 → Each Small (range_with_len a n)
small-range a zero h = tt
small-range a (suc n) h = (decimal_nonempty a (omega (arith, h)), small-range (a + 1) n (omega (arith, h)))
