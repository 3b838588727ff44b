-- What passes a test of a list.
use Rattle.std.specs.Prelude.{◌≡◌, refl, List, [], ◌∷◌, filter, cond, Bool, true, false}
use Rattle.std.proofs.Common.{sym, ap, inl, inr}
use Rattle.tv_lemmas.specs.Members.{In}
use Rattle.tv_model.proofs.Tests.{true≠false}

-- all pass
pub filter-all : {A : Type 0} (p : A → Bool) (xs : List A) → ((x : A) → In x xs → p x ≡ true) → filter p xs ≡ xs
filter-all p [] h = refl
filter-all {A = A} p (x ∷ xs) h = by (p x) (h x (inl refl)) (filter-all p xs (λ y i. h y (inr i)))
  where
    by : (b : Bool) → b ≡ true → filter p xs ≡ xs → cond b (x ∷ filter p xs) (filter p xs) ≡ x ∷ xs
    by true e k = ap (λ l. x ∷ l) k
    by false e k = absurd (true≠false (sym e))
