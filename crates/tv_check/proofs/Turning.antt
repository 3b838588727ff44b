-- Things put one by one into the lists of their numbers, and the lists that come of it.
use Rattle.std.specs.Prelude.{◌≡◌, ℕ, zero, suc, ◌+◌, ◌<◌, ◌≤◌, List, [], ◌∷◌, ◌++◌, length, map, take, filter, flat_map, set, replicate, Vec, Bool, true, false, ◌==◌, cond, refl}
use Rattle.std.specs.Global.{Global}
use Rattle.std.specs.List.{range_with_len}
use Rattle.std.proofs.Common.{arith, get_or, ap, sym, subst, ◌∙◌, append_assoc}
use Rattle.std.proofs.lemmas.Bool.{eq-eqb, ne_eqb}
use Rattle.std.proofs.lemmas.List.{append-nil, map-append, take_all, get_or_default}
use Rattle.std.proofs.lemmas.Grind.{flat_map-append}
use Rattle.tv_naming.specs.Naming.{numbered}
use Rattle.tv_naming.proofs.Lists.{take-step}
use Rattle.tv_check.specs.Turned.{from_number, from_each, with_item, with_items}

numbered-append : {X : Type 0} (k : ℕ) (xs : List X) (x : X) → numbered k (xs ++ x ∷ []) ≡ numbered k xs ++ (k + length xs, x) ∷ []
numbered-append k [] x = let e : k ≡ k + 0 = omega arith in ap (λ n. (n, x) ∷ []) e
numbered-append k (y ∷ ys) x =
    let e : suc k + length ys ≡ k + suc (length ys) = omega arith in
    ap (λ zs. (k, y) ∷ zs) (numbered-append (suc k) ys x ∙ ap (λ n. numbered (suc k) ys ++ (n, x) ∷ []) e)

length-taken : {X : Type 0} (xs : List X) (i : ℕ) → i ≤ length xs → length (take i xs) ≡ i
length-taken [] zero le = refl
length-taken [] (suc i) le = absurd (omega arith)
length-taken (x ∷ xs) zero le = refl
length-taken (x ∷ xs) (suc i) le = ap suc (length-taken xs i (omega arith))

module _ {A : Type 0} where
  -- ---- what is put into the lists of the code

  pub with_item-set : (ls : List (Vec A Global)) (i : ℕ) (x : A) (r r' : Vec A Global) → i < length ls → r ≡ get_or ls i r → r'.items ≡ r.items ++ x ∷ [] → map (λ v. v.items) (set ls i r') ≡ with_item (map (λ v. v.items) ls) (i, x)
  with_item-set [] i x r r' lt is e = absurd (omega arith)
  with_item-set (l ∷ ls) zero x r r' lt is e = ap (λ ys. ys ∷ map (λ v. v.items) ls) (e ∙ ap (λ v. v.items ++ x ∷ []) is)
  with_item-set (l ∷ ls) (suc i) x r r' lt is e = ap (λ ys. l.items ∷ ys) (with_item-set ls i x r r' (omega arith) is e)

  pub with_item-past : (xss : List (List A)) (i : ℕ) (x : A) → length xss ≤ i → with_item xss (i, x) ≡ xss
  with_item-past [] i x le = refl
  with_item-past (xs ∷ xss) zero x le = absurd (omega arith)
  with_item-past (xs ∷ xss) (suc i) x le = ap (λ ys. xs ∷ ys) (with_item-past xss i x (omega arith))

  pub with_items-append : (xss : List (List A)) (xs ys : List (ℕ × A)) → with_items xss (xs ++ ys) ≡ with_items (with_items xss xs) ys
  with_items-append xss [] ys = refl
  with_items-append xss (x ∷ xs) ys = with_items-append (with_item xss x) xs ys

  -- ---- piece by piece

  module _ {X : Type 0} (f : ℕ × X → List (ℕ × A)) where
    -- what the first i of these bring
    abbrev pub so_far : List X → ℕ → List (ℕ × A)
    so_far xs i = flat_map f (numbered 0 (take i xs))

    so_far-more : (xs : List X) (i : ℕ) (x : X) → i < length xs → x ≡ get_or xs i x → so_far xs (i + 1) ≡ so_far xs i ++ f (i, x)
    so_far-more xs i x lt is =
        let n : 0 + length (take i xs) ≡ i = omega (arith, length-taken xs i (omega arith)) in
        ap (λ ys. flat_map f (numbered 0 ys)) (take-step xs i x lt is)
        ∙ ap (flat_map f) (numbered-append 0 (take i xs) x ∙ ap (λ k. numbered 0 (take i xs) ++ (k, x) ∷ []) n)
        ∙ flat_map-append f (numbered 0 (take i xs)) ((i, x) ∷ [])
        ∙ ap (λ ys. so_far xs i ++ ys) (append-nil (f (i, x)))

    pub brought-more : (old now new : List (List A)) (xs : List X) (i : ℕ) (x : X) → i < length xs → x ≡ get_or xs i x → now ≡ with_items old (so_far xs i) → new ≡ with_items now (f (i, x)) → new ≡ with_items old (so_far xs (i + 1))
    brought-more old now new xs i x lt is e h =
        h
        ∙ ap (λ r. with_items r (f (i, x))) e
        ∙ sym (with_items-append old (so_far xs i) (f (i, x)))
        ∙ ap (with_items old) (sym (so_far-more xs i x lt is))

    pub brought-all : (old now : List (List A)) (xs : List X) (i : ℕ) → length xs ≤ i → now ≡ with_items old (so_far xs i) → now ≡ with_items old (flat_map f (numbered 0 xs))
    brought-all old now xs i past e = e ∙ ap (λ ys. with_items old (flat_map f (numbered 0 ys))) (take_all i xs past)

  pub item-more : {X : Type 0} (g : X → ℕ × A) (old now new : List (List A)) (xs : List X) (i : ℕ) (d : X) → i < length xs → now ≡ with_items old (map g (take i xs)) → new ≡ with_item now (g (get_or xs i d)) → new ≡ with_items old (map g (take (i + 1) xs))
  item-more g old now new xs i d lt e h =
      let x = get_or xs i d in
      h
      ∙ ap (λ r. with_item r (g x)) e
      ∙ sym (with_items-append old (map g (take i xs)) (g x ∷ []))
      ∙ ap (with_items old) (sym (map-append g (take i xs) (x ∷ [])) ∙ ap (map g) (sym (take-step xs i x lt (get_or_default xs i d x lt))))

  -- ---- the lists that come of it

  filter-append : (p : ℕ × A → Bool) (xs ys : List (ℕ × A)) → filter p (xs ++ ys) ≡ filter p xs ++ filter p ys
  filter-append p [] ys = refl
  filter-append p (x ∷ xs) ys = cases (p x) (filter-append p xs ys)
    where
      cases : (b : Bool) → filter p (xs ++ ys) ≡ filter p xs ++ filter p ys → cond b (x ∷ filter p (xs ++ ys)) (filter p (xs ++ ys)) ≡ cond b (x ∷ filter p xs) (filter p xs) ++ filter p ys
      cases true e = ap (λ zs. x ∷ zs) e
      cases false e = e

  from-append : (n : ℕ) (xs : List (ℕ × A)) (y : ℕ × A) → from_number n (xs ++ y ∷ []) ≡ from_number n xs ++ from_number n (y ∷ [])
  from-append n xs y = ap (map (λ x. x.1)) (filter-append (λ x. x.0 == n) xs (y ∷ [])) ∙ map-append (λ x. x.1) (filter (λ x. x.0 == n) xs) (filter (λ x. x.0 == n) (y ∷ []))

  from-own : (n : ℕ) (xs : List (ℕ × A)) (y : A) → from_number n (xs ++ (n, y) ∷ []) ≡ from_number n xs ++ y ∷ []
  from-own n xs y = from-append n xs (n, y) ∙ ap (λ b. from_number n xs ++ map (λ (x : ℕ × A). x.1) (cond b ((n, y) ∷ []) [])) (eq-eqb n n refl)

  from-other : (n m : ℕ) (xs : List (ℕ × A)) (y : A) → (m ≡ n → ⊥) → from_number n (xs ++ (m, y) ∷ []) ≡ from_number n xs
  from-other n m xs y ne = from-append n xs (m, y) ∙ ap (λ b. from_number n xs ++ map (λ (x : ℕ × A). x.1) (cond b ((m, y) ∷ []) [])) (ne_eqb m n ne) ∙ append-nil (from_number n xs)

  -- numbers from k on don't have what comes from a lesser one
  above-same : (k n m : ℕ) (xs : List (ℕ × A)) (y : A) → m < k → from_each (range_with_len k n) (xs ++ (m, y) ∷ []) ≡ from_each (range_with_len k n) xs
  above-same k zero m xs y lt = refl
  above-same k (suc n) m xs y lt =
      ap (λ z. z ∷ from_each (range_with_len (k + 1) n) (xs ++ (m, y) ∷ [])) (from-other k m xs y (λ e. omega (arith, e)))
      ∙ ap (λ zs. from_number k xs ∷ zs) (above-same (k + 1) n m xs y (omega arith))

  turned-item : (k n i : ℕ) (xs : List (ℕ × A)) (y : A) → with_item (from_each (range_with_len k n) xs) (i, y) ≡ from_each (range_with_len k n) (xs ++ (k + i, y) ∷ [])
  turned-item k zero i xs y = refl
  turned-item k (suc n) zero xs y =
      let e : k ≡ k + 0 = omega arith in
      ap (λ z. z ∷ from_each (range_with_len (k + 1) n) xs) (sym (from-own k xs y))
      ∙ ap (λ zs. from_number k (xs ++ (k, y) ∷ []) ∷ zs) (sym (above-same (k + 1) n k xs y (omega arith)))
      ∙ ap (λ m. from_each (range_with_len k (suc n)) (xs ++ (m, y) ∷ [])) e
  turned-item k (suc n) (suc i) xs y =
      let e : k + 1 + i ≡ k + suc i = omega arith in
      ap (λ z. z ∷ with_item (from_each (range_with_len (k + 1) n) xs) (i, y)) (sym (from-other k (k + suc i) xs y (λ h. omega (arith, h))))
      ∙ ap (λ zs. from_number k (xs ++ (k + suc i, y) ∷ []) ∷ zs) (turned-item (k + 1) n i xs y ∙ ap (λ m. from_each (range_with_len (k + 1) n) (xs ++ (m, y) ∷ [])) e)

  turned-items : (n : ℕ) (xs ys : List (ℕ × A)) → with_items (from_each (range_with_len 0 n) xs) ys ≡ from_each (range_with_len 0 n) (xs ++ ys)
  turned-items n xs [] = ap (from_each (range_with_len 0 n)) (sym (append-nil xs))
  turned-items n xs ((i, y) ∷ ys) =
      let e : 0 + i ≡ i = omega arith in
      ap (λ r. with_items r ys) (turned-item 0 n i xs y ∙ ap (λ m. from_each (range_with_len 0 n) (xs ++ (m, y) ∷ [])) e)
      ∙ turned-items n (xs ++ (i, y) ∷ []) ys
      ∙ ap (from_each (range_with_len 0 n)) (append_assoc xs ((i, y) ∷ []) ys)

  nothing-yet : (k n : ℕ) → replicate n [] ≡ from_each {A = A} (range_with_len k n) []
  nothing-yet k zero = refl
  nothing-yet k (suc n) = ap (λ zs. [] ∷ zs) (nothing-yet (k + 1) n)

  -- all things put into empty lists
  pub turned : (n : ℕ) (xs : List (ℕ × A)) → with_items (replicate n []) xs ≡ from_each (range_with_len 0 n) xs
  turned n xs = ap (λ r. with_items r xs) (nothing-yet 0 n) ∙ turned-items n [] xs
