-- What is so of each of a list, and tests on ranges.
use Rattle.std.specs.List.{range_with_len}
use Rattle.std.specs.Prelude.{◌≡◌, ℕ, zero, suc, ◌+◌, ◌<◌, ◌≤◌, Bool, true, false, cond, List, [], ◌∷◌, ◌++◌, drop, filter, flat_map, length, take, refl}
use Rattle.std.proofs.Common.{arith, get_or, ap, sym, subst, ◌∙◌, append-nil}
use Rattle.std.proofs.lemmas.List.Elements.{filter-append}
use Rattle.tv_lemmas.specs.Members.{Each}
use Rattle.tv_lemmas.proofs.Numbers.{none-below}
use Rattle.tv_lemmas.proofs.Lists.{range-more}
use Rattle.tv_matching.specs.Items.{if_so}

module _ {A : Type 0} (P : A → Type 0) where
  pub each-front : (xs ys : List A) → Each P (xs ++ ys) → Each P xs
  each-front [] ys h = tt
  each-front (x ∷ xs) ys h = (h.0, each-front xs ys h.1)

  pub each-behind : (xs ys : List A) → Each P (xs ++ ys) → Each P ys
  each-behind [] ys h = h
  each-behind (x ∷ xs) ys h = each-behind xs ys h.1

  pub each-at : (xs : List A) (i : ℕ) (d : A) → Each P xs → i < length xs → P (get_or xs i d)
  each-at [] i d h l = none-below i l
  each-at (x ∷ xs) zero d h l = h.0
  each-at (x ∷ xs) (suc i) d h l = each-at xs i d h.1 (omega arith)

  -- one more of the first ones
  pub each-next : (xs : List A) (i : ℕ) (d : A) → Each P (take i xs) → i < length xs → P (get_or xs i d) → Each P (take (i + 1) xs)
  each-next xs i d h l p = subst (λ n. Each P (take n xs)) (plus i) (by xs i h l p)
    where
      plus : (i : ℕ) → suc i ≡ i + 1
      plus i = omega arith

      by : (xs : List A) (i : ℕ) → Each P (take i xs) → i < length xs → P (get_or xs i d) → Each P (take (suc i) xs)
      by [] i h l p = tt
      by (x ∷ xs) zero h l p = (p, tt)
      by (x ∷ xs) (suc i) h l p = (h.0, by xs i h.1 (omega arith) p)

  pub each-filter : (p : A → Bool) (xs : List A) → Each P xs → Each P (filter p xs)
  each-filter p [] h = tt
  each-filter p (x ∷ xs) h = by (p x) (each-filter p xs h.1)
    where
      by : (b : Bool) → Each P (filter p xs) → Each P (cond b (x ∷ filter p xs) (filter p xs))
      by true r = (h.0, r)
      by false r = r

-- of those that pass, also that they do
pub each-passing : {A : Type 0} (P : A → Type 0) (p : A → Bool) (xs : List A) → Each P xs → Each (λ x. P x × (p x ≡ true)) (filter p xs)
each-passing P p [] h = tt
each-passing P p (x ∷ xs) h = by (p x) refl (each-passing P p xs h.1)
  where
    by : (b : Bool) → p x ≡ b → Each (λ y. P y × (p y ≡ true)) (filter p xs) → Each (λ y. P y × (p y ≡ true)) (cond b (x ∷ filter p xs) (filter p xs))
    by true e r = ((h.0, e), r)
    by false e r = r

-- of what is made of each part
pub each-unflat : {A B : Type 0} (P : B → Type 0) (f : A → List B) (xs : List A) → Each P (flat_map f xs) → Each (λ x. Each P (f x)) xs
each-unflat P f [] h = tt
each-unflat P f (x ∷ xs) h = (each-front P (f x) (flat_map f xs) h, each-unflat P f xs (each-behind P (f x) (flat_map f xs) h))

-- those that pass where none does
pub filter-none : {A : Type 0} (p : A → Bool) (xs : List A) → Each (λ x. p x ≡ false) xs → filter p xs ≡ []
filter-none p [] h = refl
filter-none p (x ∷ xs) h = ap (λ b. cond b (x ∷ filter p xs) (filter p xs)) h.0 ∙ filter-none p xs h.1

-- where two tests agree on each
pub filter-same : {A : Type 0} (p q : A → Bool) (xs : List A) → Each (λ x. p x ≡ q x) xs → filter p xs ≡ filter q xs
filter-same p q [] h = refl
filter-same p q (x ∷ xs) h = (λ i. cond (h.0 i) (x ∷ filter-same p q xs h.1 i) (filter-same p q xs h.1 i))

-- those that pass one test among those that pass another, which all of them pass
pub filter-among : {A : Type 0} (p q : A → Bool) → ((x : A) → q x ≡ false → p x ≡ false) → (xs : List A) → filter p (filter q xs) ≡ filter p xs
filter-among p q h [] = refl
filter-among p q h (x ∷ xs) = by (q x) refl (filter-among p q h xs)
  where
    by : (b : Bool) → q x ≡ b → filter p (filter q xs) ≡ filter p xs → filter p (cond b (x ∷ filter q xs) (filter q xs)) ≡ cond (p x) (x ∷ filter p xs) (filter p xs)
    by true e r = ap (λ ys. cond (p x) (x ∷ ys) ys) r
    by false e r = r ∙ sym (ap (λ b. cond b (x ∷ filter p xs) (filter p xs)) (h x e))

-- ---- ranges

module _ (p : ℕ → Bool) where
  -- the passing ones below one more
  pub passing-more : (b : ℕ) → filter p (range_with_len 0 (b + 1)) ≡ filter p (range_with_len 0 b) ++ if_so (p b) b
  passing-more b =
      let e : 0 + b ≡ b = omega arith in
      ap (filter p) (range-more 0 b ∙ ap (λ n. range_with_len 0 b ++ n ∷ []) e) ∙ filter-append p (range_with_len 0 b) (b ∷ [])

  -- and where none of some more passes
  pub passing-same : (b n : ℕ) → ((c : ℕ) → b ≤ c → c < b + n → p c ≡ false) → filter p (range_with_len 0 (b + n)) ≡ filter p (range_with_len 0 b)
  passing-same b zero h = let e : b + 0 ≡ b = omega arith in ap (λ k. filter p (range_with_len 0 k)) e
  passing-same b (suc n) h =
      let e : b + suc n ≡ b + n + 1 = omega arith in
      ap (λ k. filter p (range_with_len 0 k)) e
      ∙ passing-more (b + n)
      ∙ ap (λ t. filter p (range_with_len 0 (b + n)) ++ if_so t (b + n)) (h (b + n) (omega arith) (omega arith))
      ∙ append-nil (filter p (range_with_len 0 (b + n)))
      ∙ passing-same b n (λ c l m. h c l (omega arith))

  pub passing-until : (b d : ℕ) → b ≤ d → ((c : ℕ) → b ≤ c → c < d → p c ≡ false) → filter p (range_with_len 0 d) ≡ filter p (range_with_len 0 b)
  passing-until b d l h =
      let rest : (k : ℕ) × (b + k ≡ d) = least b d l in
      ap (λ k. filter p (range_with_len 0 k)) (sym rest.1) ∙ passing-same b rest.0 (λ c m n. h c m (omega (arith, rest.1)))
    where
      least : (b d : ℕ) → b ≤ d → (k : ℕ) × (b + k ≡ d)
      least zero d l = (d, omega arith)
      least (suc b) zero l = absurd (omega arith)
      least (suc b) (suc d) l = let r = least b d (omega arith) in (r.0, omega (arith, r.1))

-- what is so of each number in a range that passes is so of one of them
pub each-within : (P : ℕ → Type 0) (p : ℕ → Bool) (c n : ℕ) → c < n → p c ≡ true → Each P (filter p (range_with_len 0 n)) → P c
each-within P p c n l t h = by 0 n c (omega arith) l t h
  where
    by : (a n k : ℕ) → a + k ≡ c → k < n → p c ≡ true → Each P (filter p (range_with_len a n)) → P c
    by a zero k e l t h = none-below k l
    by a (suc n) zero e l t h =
        let same : a ≡ c = omega (arith, e) in
        subst P same (subst (λ b. Each P (cond b (a ∷ filter p (range_with_len (a + 1) n)) (filter p (range_with_len (a + 1) n)))) (subst (λ x. p x ≡ true) (sym same) t) h).0
    by a (suc n) (suc k) e l t h = by (a + 1) n k (omega (arith, e)) (omega arith) t (rest (p a) h)
      where
        rest : (b : Bool) → Each P (cond b (a ∷ filter p (range_with_len (a + 1) n)) (filter p (range_with_len (a + 1) n))) → Each P (filter p (range_with_len (a + 1) n))
        rest true h = h.1
        rest false h = h

-- ---- one of a list, and those before and behind it

module _ {A : Type 0} where
  pub drop-at : (xs : List A) (i : ℕ) (d : A) → i < length xs → drop i xs ≡ get_or xs i d ∷ drop (i + 1) xs
  drop-at xs i d l = by xs i l ∙ ap (λ n. get_or xs i d ∷ drop n xs) (plus i)
    where
      plus : (i : ℕ) → suc i ≡ i + 1
      plus i = omega arith

      by : (xs : List A) (i : ℕ) → i < length xs → drop i xs ≡ get_or xs i d ∷ drop (suc i) xs
      by [] i l = none-below i l
      by (x ∷ xs) zero l = refl
      by (x ∷ xs) (suc i) l = by xs i (omega arith)

  pub take-at : (xs : List A) (i : ℕ) (d : A) → i < length xs → take (i + 1) xs ≡ take i xs ++ get_or xs i d ∷ []
  take-at xs i d l = ap (λ n. take n xs) (plus i) ∙ by xs i l
    where
      plus : (i : ℕ) → i + 1 ≡ suc i
      plus i = omega arith

      by : (xs : List A) (i : ℕ) → i < length xs → take (suc i) xs ≡ take i xs ++ get_or xs i d ∷ []
      by [] i l = none-below i l
      by (x ∷ xs) zero l = refl
      by (x ∷ xs) (suc i) l = ap (λ ys. x ∷ ys) (by xs i (omega arith))
