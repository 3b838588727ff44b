-- Lists by number: with one member in another's place, and with one more.
use Rattle.std.specs.Prelude.{◌≡◌, ◌≢◌, refl, ℕ, zero, suc, ◌+◌, ◌==◌, ◌⊎◌, Bool, true, false, List, [], ◌∷◌, ◌++◌, Some, length, slice_get, slice_set}
use Rattle.std.proofs.Common.{ap, arith, inl, inr, length-append, subst, sym, ◌∙◌}
use Rattle.std.proofs.lemmas.Bool.{eq-eqb, eqb-true}
use Rattle.std.proofs.lemmas.Option.{none-some, same_Some}
use Rattle.tv_model.proofs.Tests.{true≠false}
use Rattle.tv_seats.proofs.Staging.{set-here, set-other}

pub same-number : {R : Type 0} (m n : ℕ) → (m ≡ n → R) → (m ≢ n → R) → R
same-number {R} m n same other = by (m == n) refl
  where
    by : (b : Bool) → (m == n) ≡ b → R
    by true e = same (eqb-true m n e)
    by false e = other (λ is. true≠false (sym (eq-eqb m n is) ∙ e))

module _ {A : Type 0} where
  -- ---- names

  pub no-last : (xs : List A) (x : A) → xs ++ x ∷ [] ≡ [] → ⊥
  no-last xs x e =
      let n : length xs + 1 ≡ 0 = sym (length-append xs (x ∷ [])) ∙ ap length e in
      omega (arith, n)

  pub no-longer : (xs : List A) (x : A) → xs ≡ xs ++ x ∷ [] → ⊥
  no-longer xs x e =
      let n : length xs ≡ length xs + 1 = ap length e ∙ length-append xs (x ∷ []) in
      omega (arith, n)

  -- ---- one member

  pub one-at : (xs : List A) (n : ℕ) (x y : A) → slice_get xs n ≡ Some x → slice_get xs n ≡ Some y → x ≡ y
  one-at xs n x y e f = same_Some x y (sym e ∙ f)

  -- what is so of member i, and of all others, is so of each
  pub at-each : (xs : List A) (i : ℕ) (x : A) → slice_get xs i ≡ Some x
      → (P : ℕ → A → Type 0) → P i x
      → ((k : ℕ) (y : A) → k ≢ i → slice_get xs k ≡ Some y → P k y)
      → (k : ℕ) (y : A) → slice_get xs k ≡ Some y → P k y
  at-each xs i x at P here others k y e =
      same-number k i
      (λ is.
      subst (λ n. P n y) (sym is)
      (subst (P i) (one-at xs i x y at (subst (λ n. slice_get xs n ≡ Some y) is e)) here))
      (λ ne. others k y ne e)

  -- ---- one in another's place

  module _ (xs : List A) (i : ℕ) (x y : A) (at : slice_get xs i ≡ Some x) where
    pub at-set : slice_get (slice_set xs i y) i ≡ Some y
    at-set = set-here xs i x y at

    pub to-set : (k : ℕ) (z : A) → k ≢ i → slice_get xs k ≡ Some z → slice_get (slice_set xs i y) k ≡ Some z
    to-set k z ne e = set-other xs i k y ne ∙ e

    pub of-set : (k : ℕ) (z : A) → k ≢ i → slice_get (slice_set xs i y) k ≡ Some z → slice_get xs k ≡ Some z
    of-set k z ne e = sym (set-other xs i k y ne) ∙ e

  -- which of two is put first is all one
  pub set-swap : (xs : List A) (i k : ℕ) (x y : A) → i ≢ k
      → slice_set (slice_set xs i x) k y ≡ slice_set (slice_set xs k y) i x
  set-swap [] i k x y ne = refl
  set-swap (z ∷ xs) zero zero x y ne = absurd (ne refl)
  set-swap (z ∷ xs) zero (suc k) x y ne = refl
  set-swap (z ∷ xs) (suc i) zero x y ne = refl
  set-swap (z ∷ xs) (suc i) (suc k) x y ne = ap (λ l. z ∷ l) (set-swap xs i k x y (λ e. ne (ap suc e)))

  -- ---- one more

  pub of-last : (xs : List A) (y : A) (n : ℕ) (x : A) → slice_get (xs ++ y ∷ []) n ≡ Some x
      → (slice_get xs n ≡ Some x) ⊎ ((n ≡ length xs) × (y ≡ x))
  of-last [] y zero x e = inr (refl, same_Some y x e)
  of-last [] y (suc n) x e = absurd (none-some x e)
  of-last (z ∷ xs) y zero x e = inl e
  of-last (z ∷ xs) y (suc n) x e = behind (of-last xs y n x e)
    where
      behind : (slice_get xs n ≡ Some x) ⊎ ((n ≡ length xs) × (y ≡ x))
          → (slice_get xs n ≡ Some x) ⊎ ((suc n ≡ suc (length xs)) × (y ≡ x))
      behind (inl e) = inl e
      behind (inr r) = inr (ap suc r.0, r.1)
