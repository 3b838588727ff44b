-- Things that lead to numbers of their own, each of them a number of a list, are at most as many as the list has.
use Rattle.std.specs.List.{All, AllByRecursion, AllPairs, IsDistinct}
use Rattle.std.specs.Prelude.{◌≡◌, ◌≢◌, refl, ℕ, suc, ◌≤◌, Bool, true, false, ◌||◌, eqb, List, [], ◌∷◌, length, map}
use Rattle.std.specs.Set.{is_member}
use Rattle.std.proofs.Common.{sym, subst, zero-lt-suc}
use Rattle.std.proofs.lemmas.Bool.{eqb-true, ne_eqb, true≢false}
use Rattle.std.proofs.lemmas.Cmp.{nat_eq_equiv}
use Rattle.std.proofs.lemmas.List.{length-map}
use Rattle.std.proofs.lemmas.Map.Made.{length-le_from_is_member}
use Rattle.tv_lemmas.proofs.Numbers.{suc-less}

-- ---- item by item

module _ {A : Type 0} where
  pub all-first : (P : A → Type 0) (x : A) (xs : List A) → All P (x ∷ xs) → P x
  all-first P x xs h = h 0 x (zero-lt-suc (length xs))

  pub all-rest : (P : A → Type 0) (x : A) (xs : List A) → All P (x ∷ xs) → All P xs
  all-rest P x xs h k d l = h (suc k) d (suc-less k (length xs) l)

  pub pairs-first : (R : A → A → Type 0) (x : A) (xs : List A) → AllPairs R (x ∷ xs) → All (R x) xs
  pairs-first R x xs h k d l = h 0 (suc k) d (zero-lt-suc k) (suc-less k (length xs) l)

  pub pairs-rest : (R : A → A → Type 0) (x : A) (xs : List A) → AllPairs R (x ∷ xs) → AllPairs R xs
  pairs-rest R x xs h i j d l m = h (suc i) (suc j) d (suc-less i j l) (suc-less j (length xs) m)

-- ---- their numbers

module _ {A : Type 0} (P : A → Type 0) (f : A → ℕ) (ys : List ℕ) (own : (x y : A) → P x → P y → f x ≡ f y → x ≡ y) (there : (x : A) → P x → is_member eqb ys (f x) ≡ true) where
  others : (x : A) → P x → (xs : List A) → All P xs → All (λ y. x ≢ y) xs → AllByRecursion (λ m. eqb (f x) m ≡ false) (map f xs)
  others x p [] a d = tt
  others x p (y ∷ xs) a d = (
    ne_eqb (f x) (f y) (λ e. all-first (λ z. x ≢ z) y xs d (own x y p (all-first P y xs a) e)),
    others x p xs (all-rest P y xs a) (all-rest (λ z. x ≢ z) y xs d),
  )

  distinct : (xs : List A) → All P xs → AllPairs (λ x y. x ≢ y) xs → IsDistinct eqb (map f xs)
  unfolding IsDistinct
  distinct [] a d = tt
  distinct (x ∷ xs) a d = (
    others x (all-first P x xs a) xs (all-rest P x xs a) (pairs-first (λ x y. x ≢ y) x xs d),
    distinct xs (all-rest P x xs a) (pairs-rest (λ x y. x ≢ y) x xs d),
  )

  members : (xs : List A) → All P xs → (n : ℕ) → is_member eqb (map f xs) n ≡ true → is_member eqb ys n ≡ true
  members [] a n h = absurd (true≢false (sym h))
  members (x ∷ xs) a n h = by (eqb n (f x)) refl h (λ k. members xs (all-rest P x xs a) n k)
    where
      by : (b : Bool) → eqb n (f x) ≡ b → (b || is_member eqb (map f xs) n) ≡ true → (is_member eqb (map f xs) n ≡ true → is_member eqb ys n ≡ true) → is_member eqb ys n ≡ true
      by true e k rec = subst (λ m. is_member eqb ys m ≡ true) (sym (eqb-true n (f x) e)) (there x (all-first P x xs a))
      by false e k rec = rec k

  pub counted : (xs : List A) → All P xs → AllPairs (λ x y. x ≢ y) xs → length xs ≤ length ys
  counted xs a d = subst (λ n. n ≤ length ys) (length-map xs f) (length-le_from_is_member nat_eq_equiv (map f xs) ys (distinct xs a d) (members xs a))
