-- Lists whose images agree at each member.
use Rattle.std.specs.Prelude.{◌≡◌, refl, ℕ, suc, List, [], ◌∷◌, map, Some, slice_get}
use Rattle.std.proofs.Common.{ap₂}

pub same-maps : {A B : Type 0} (f g : A → B) (xs : List A) → ((n : ℕ) (x : A) → slice_get xs n ≡ Some x → f x ≡ g x)
    → map f xs ≡ map g xs
same-maps f g [] h = refl
same-maps f g (x ∷ xs) h = ap₂ (λ y ys. y ∷ ys) (h 0 x refl) (same-maps f g xs (λ n y e. h (suc n) y e))
