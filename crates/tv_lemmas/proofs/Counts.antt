-- How many of a list pass a test.
use Rattle.std.specs.Prelude.{◌≡◌, refl, ℕ, ◌+◌, ◌≤◌, ◌==◌, List, [], ◌∷◌, map, reverse, filter, count_by, Bool, true, false, ◌&&◌, ◌||◌, cond}
use Rattle.std.specs.List.{list_any}
use Rattle.std.proofs.Common.{arith, sym, ap, subst, ◌∙◌, eqb-true}
use Rattle.std.proofs.lemmas.List.Sums.{sum_by-cons}
use Rattle.std.proofs.lemmas.List.Sorted.{IsPermutation-reverse, sum_by-IsPermutation}

abbrev one_if : {A : Type 0} → (A → Bool) → A → ℕ
one_if p x = cond (p x) 1 0

pub count-cons : {A : Type 0} (p : A → Bool) (x : A) (xs : List A) → count_by p (x ∷ xs) ≡ cond (p x) 1 0 + count_by p xs
count-cons p x xs = sum_by-cons (one_if p) x xs

pub count-map : {A B : Type 0} (p : B → Bool) (f : A → B) (xs : List A) → count_by p (map f xs) ≡ count_by (λ x. p (f x)) xs
count-map p f [] = refl
count-map p f (x ∷ xs) = count-cons p (f x) (map f xs) ∙ ap (λ k. one_if p (f x) + k) (count-map p f xs) ∙ sym (count-cons (λ y. p (f y)) x xs)

pub count-reverse : {A : Type 0} (p : A → Bool) (xs : List A) → count_by p (reverse xs) ≡ count_by p xs
count-reverse p xs = sum_by-IsPermutation (one_if p) xs (reverse xs) (IsPermutation-reverse xs)

-- both tests, or the one among those that pass the other
pub count-both : {A : Type 0} (p q : A → Bool) (xs : List A) → count_by (λ x. p x && q x) xs ≡ count_by q (filter p xs)
count-both p q [] = refl
count-both {A = A} p q (x ∷ xs) = count-cons (λ y. p y && q y) x xs ∙ by (p x) (count-both p q xs)
  where
    by : (b : Bool) → count_by (λ y. p y && q y) xs ≡ count_by q (filter p xs) → cond (b && q x) 1 0 + count_by (λ y. p y && q y) xs ≡ count_by q (cond b (x ∷ filter p xs) (filter p xs))
    by true h = ap (λ k. one_if q x + k) h ∙ sym (count-cons q x (filter p xs))
    by false h = omega (arith, h)

-- at least one
pub any-counted : {A : Type 0} (p : A → Bool) (xs : List A) → 1 ≤ count_by p xs → list_any p xs ≡ true
any-counted p [] h = absurd (omega arith)
any-counted p (x ∷ xs) h = cases (p x) (subst (λ n. 1 ≤ n) (count-cons p x xs) h) (any-counted p xs)
  where
    cases : (b : Bool) → 1 ≤ cond b 1 0 + count_by p xs → (1 ≤ count_by p xs → list_any p xs ≡ true) → (b || list_any p xs) ≡ true
    cases true k rec = refl
    cases false k rec = rec (omega (arith, k))

pub once-any : {A : Type 0} (p : A → Bool) (xs : List A) → (count_by p xs == 1) ≡ true → list_any p xs ≡ true
once-any p xs h = any-counted p xs (let e = eqb-true (count_by p xs) 1 h in omega (arith, e))
