-- Seats of which one stands at another stage, or one more.
use Rattle.std.specs.Prelude.{◌≡◌, ◌≢◌, ℕ, zero, suc, ◌+◌, ◌==◌, ◌++◌, Bool, true, false, cond, List, [], ◌∷◌, Some, count_by, length, slice_get, slice_set, refl}
use Rattle.std.specs.Option.{option_map_or}
use Rattle.std.proofs.Common.{arith, ap, sym, ◌∙◌, length-set}
use Rattle.std.proofs.lemmas.Bool.{eq-eqb, eqb-true}
use Rattle.std.proofs.lemmas.List.Sums.{sum_by-cons}
use Rattle.tv_seats.specs.declared.stage.Stage.{Stage}
use Rattle.tv_seats.specs.Kept.{IsSeatAt}
pub use Rattle.tv_seats.specs.Moves.{one}
use Rattle.tv_seats.specs.Seats.{Seat, staged, with_stage}

-- ---- lists

module _ {A : Type 0} where
  pub set-here : (xs : List A) (n : ℕ) (x y : A) → slice_get xs n ≡ Some x → slice_get (slice_set xs n y) n ≡ Some y
  set-here [] n x y e = cc
  set-here (z ∷ xs) zero x y e = refl
  set-here (z ∷ xs) (suc n) x y e = set-here xs n x y e

  pub set-other : (xs : List A) (n m : ℕ) (y : A) → m ≢ n → slice_get (slice_set xs n y) m ≡ slice_get xs m
  set-other [] n m y ne = refl
  set-other (z ∷ xs) zero zero y ne = absurd (ne refl)
  set-other (z ∷ xs) zero (suc m) y ne = refl
  set-other (z ∷ xs) (suc n) zero y ne = refl
  set-other (z ∷ xs) (suc n) (suc m) y ne = set-other xs n m y (λ e. ne (ap suc e))

  pub some-same : {x y : A} → Some x ≡ Some y → x ≡ y
  some-same e = cc

  pub set-same : (xs : List A) (n : ℕ) (x : A) → slice_get xs n ≡ Some x → slice_set xs n x ≡ xs
  set-same [] n x e = refl
  set-same (z ∷ xs) zero x e = ap (λ y. y ∷ xs) (sym (some-same e))
  set-same (z ∷ xs) (suc n) x e = ap (λ l. z ∷ l) (set-same xs n x e)

module _ {A : Type 0} (p : A → Bool) where
  pub count-cons : (x : A) (xs : List A) → count_by p (x ∷ xs) ≡ one (p x) + count_by p xs
  count-cons x xs = sum_by-cons (λ y. cond (p y) 1 0) x xs

  pub count-set : (xs : List A) (n : ℕ) (x y : A) → slice_get xs n ≡ Some x → count_by p (slice_set xs n y) + one (p x) ≡ count_by p xs + one (p y)
  count-set [] n x y e = cc
  count-set (z ∷ xs) zero x y e =
      let same : one (p z) ≡ one (p x) = ap (λ z. one (p z)) (some-same e) in
      let a = count-cons z xs in
      let b = count-cons y xs in
      omega (arith, same, a, b)
  count-set (z ∷ xs) (suc n) x y e =
      let a = count-cons z xs in
      let b = count-cons z (slice_set xs n y) in
      let r = count-set xs n x y e in
      omega (arith, a, b, r)

  pub count-last : (xs : List A) (x : A) → count_by p (xs ++ x ∷ []) ≡ count_by p xs + one (p x)
  count-last [] x = let c = count-cons x [] in omega (arith, c)
  count-last (z ∷ xs) x =
      let a = count-cons z xs in
      let b = count-cons z (xs ++ x ∷ []) in
      let r = count-last xs x in
      omega (arith, a, b, r)

-- ---- one seat at another stage

module _ (seats : List Seat) (n : ℕ) (s : Seat) (x : Stage) (there : slice_get seats n ≡ Some s) where
  abbrev after : List Seat
  after = with_stage n x seats

  pub as-set : with_stage n x seats ≡ slice_set seats n (staged x s)
  as-set = ap (λ o. option_map_or (λ t. slice_set seats n (staged x t)) o seats) there

  pub staged-here : slice_get (with_stage n x seats) n ≡ Some (staged x s)
  staged-here = ap (λ l. slice_get l n) as-set ∙ set-here seats n s (staged x s) there

  pub staged-other : (m : ℕ) → m ≢ n → slice_get (with_stage n x seats) m ≡ slice_get seats m
  staged-other m ne = ap (λ l. slice_get l m) as-set ∙ set-other seats n m (staged x s) ne

  pub staged-long : length (with_stage n x seats) ≡ length seats
  staged-long = ap length as-set ∙ length-set seats n (staged x s)

  pub staged-count : (p : Seat → Bool) → count_by p (with_stage n x seats) + one (p s) ≡ count_by p seats + one (p (staged x s))
  staged-count p = ap (λ l. count_by p l + one (p s)) as-set ∙ count-set p seats n s (staged x s) there

  -- ---- which are at such a stage

  pub by-same : {R : Type 0} (m : ℕ) → (m ≢ n → R) → (m ≡ n → R) → R
  by-same {R} m other same = by (m == n) refl
    where
      by : (b : Bool) → (m == n) ≡ b → R
      by true e = same (eqb-true m n e)
      by false e = other (λ is. let f : false ≡ true = sym e ∙ eq-eqb m n is in cc)

  -- one that is so afterwards was so before, or is this one
  pub at-before : {R : Type 0} (p : Stage → Bool) (k m : ℕ) (t : Seat) → IsSeatAt p after k m t
      → (m ≢ n → IsSeatAt p seats k m t → R) → (m ≡ n → t ≡ staged x s → R) → R
  at-before p k m t i other same =
      by-same m
      (λ ne. other ne (record { there = sym (staged-other m ne) ∙ i.there; of_step = i.of_step; stands = i.stands }))
      (λ is. same is (sym (some-same (sym staged-here ∙ (ap (slice_get after) (sym is) ∙ i.there)))))

  pub at-after : {R : Type 0} (p : Stage → Bool) (k m : ℕ) (t : Seat) → IsSeatAt p seats k m t
      → (m ≢ n → IsSeatAt p after k m t → R) → (m ≡ n → t ≡ s → R) → R
  at-after p k m t i other same =
      by-same m
      (λ ne. other ne (record { there = staged-other m ne ∙ i.there; of_step = i.of_step; stands = i.stands }))
      (λ is. same is (sym (some-same (sym there ∙ (ap (slice_get seats) (sym is) ∙ i.there)))))
