-- Members that have keys of their own, by number.
use Rattle.std.specs.Prelude.{◌≡◌, refl, ℕ, suc, List, [], ◌∷◌, Some, slice_get}
use Rattle.std.proofs.Common.{arith, sym}
use Rattle.tv_model.specs.JobOrder.{Apart}
use Rattle.tv_lemmas.proofs.Members.{get-in}

-- where one key means one number, members have keys of their own
pub apart-by : {A B : Type 0} (f : A → B) (xs : List A)
    → ((n k : ℕ) (x y : A) → slice_get xs n ≡ Some x → slice_get xs k ≡ Some y → f x ≡ f y → n ≡ k) → Apart f xs
apart-by f [] h = tt
apart-by f (x ∷ xs) h = (
  λ y i e. let p = get-in y xs i in first p.0 (h 0 (suc p.0) x y refl p.1 (sym e)),
  apart-by f xs (λ n k a b p q e. less n k (h (suc n) (suc k) a b p q e)),
)
  where
    first : (n : ℕ) → 0 ≡ suc n → ⊥
    first n e = omega arith

    less : (n k : ℕ) → suc n ≡ suc k → n ≡ k
    less n k e = omega arith
