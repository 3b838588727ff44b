-- Lists by number: of two one behind the other, of images, and with one member in another's place.
use Rattle.std.specs.Prelude.{◌≡◌, refl, ℕ, zero, suc, ◌+◌, ◌⊎◌, List, [], ◌∷◌, ◌++◌, Some, map, slice_get, slice_set}
use Rattle.std.proofs.Common.{ap, ap₂, inl, inr, sym, ◌∙◌}
use Rattle.std.proofs.lemmas.Option.{none-some, same_Some}

module _ {A : Type 0} where
  -- ---- one list behind another

  pub in-either : (xs ys : List A) (n : ℕ) (x : A) → slice_get (xs ++ ys) n ≡ Some x
      → (slice_get xs n ≡ Some x) ⊎ ((p : ℕ) × (slice_get ys p ≡ Some x))
  in-either [] ys n x e = inr (n, e)
  in-either (z ∷ xs) ys zero x e = inl e
  in-either (z ∷ xs) ys (suc n) x e = in-either xs ys n x e

-- ---- images

module _ {A B : Type 0} (f : A → B) where
  pub same-images : (xs : List A) (n : ℕ) (x y : A) → slice_get xs n ≡ Some x → f y ≡ f x
      → map f (slice_set xs n y) ≡ map f xs
  same-images [] n x y e h = absurd (none-some x e)
  same-images (z ∷ xs) zero x y e h = ap (λ b. b ∷ map f xs) (h ∙ ap f (sym (same_Some z x e)))
  same-images (z ∷ xs) (suc n) x y e h = ap (λ l. f z ∷ l) (same-images xs n x y e h)

  -- what is done to the members before isn't seen
  pub unseen : (g : A → A) → ((x : A) → f (g x) ≡ f x) → (xs : List A) → map f (map g xs) ≡ map f xs
  unseen g h [] = refl
  unseen g h (x ∷ xs) = ap₂ (λ b l. b ∷ l) (h x) (unseen g h xs)
