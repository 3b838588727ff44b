-- Lists made of lists, of which most pieces are empty.
use Rattle.std.specs.Prelude.{◌≡◌, refl, ℕ, zero, suc, ◌+◌, ◌<◌, ◌==◌, flat_map, List, [], ◌∷◌, ◌++◌, map, Option, Some, None, slice_get, slice_index_or}
use Rattle.std.specs.List.{range_with_len}
use Rattle.std.proofs.Common.{arith, sym, ap, ap₂, subst, ◌∙◌, append_assoc, append-nil, add-zero, suc-ne-zero, zero-add}
use Rattle.std.proofs.lemmas.Grind.{flat_map-append}
use Rattle.std.proofs.lemmas.Option.{none-some, same_Some}
use Rattle.tv_lemmas.proofs.Numbers.{zero-not_suc, plus-suc}
use Rattle.tv_naming.specs.Naming.{numbered}

module _ {X Y : Type 0} where
  pub none-flat : (F : X → List Y) → ((x : X) → F x ≡ []) → (xs : List X) → flat_map F xs ≡ []
  none-flat F h [] = refl
  none-flat F h (x ∷ xs) = ap₂ (λ a b. a ++ b) (h x) (none-flat F h xs)

  pub flat-flat : {Z : Type 0} (G : Y → List Z) (F : X → List Y) (xs : List X) → flat_map G (flat_map F xs) ≡ flat_map (λ x. flat_map G (F x)) xs
  flat-flat G F [] = refl
  flat-flat G F (x ∷ xs) = flat_map-append G (F x) (flat_map F xs) ∙ ap (λ zs. flat_map G (F x) ++ zs) (flat-flat G F xs)

  pub flat-mapped : {Z : Type 0} (G : Y → List Z) (v : X → Y) (xs : List X) → flat_map G (map v xs) ≡ flat_map (λ x. G (v x)) xs
  flat-mapped G v [] = refl
  flat-mapped G v (x ∷ xs) = ap (λ zs. G (v x) ++ zs) (flat-mapped G v xs)

  pub numbered-map : (v : X → Y) (k : ℕ) (xs : List X) → numbered k (map v xs) ≡ map (λ x. (x.0, v x.1)) (numbered k xs)
  numbered-map v k [] = refl
  numbered-map v k (x ∷ xs) = ap (λ zs. (k, v x) ∷ zs) (numbered-map v (suc k) xs)

  none-numbered : (F : ℕ × X → List Y) (k : ℕ) (xs : List X) → ((m : ℕ) (x : X) → slice_get xs m ≡ Some x → F (k + m, x) ≡ []) → flat_map F (numbered k xs) ≡ []
  none-numbered F k [] h = refl
  none-numbered F k (x ∷ xs) h =
      ap₂ (λ a b. a ++ b) (ap (λ n. F (n, x)) (sym (add-zero k)) ∙ h 0 x refl)
      (none-numbered F (suc k) xs (λ m y e. ap (λ n. F (n, y)) (sym (plus-suc k m)) ∙ h (suc m) y e))

  -- where all pieces but one are empty
  only-from : (F : ℕ × X → List Y) (k : ℕ) (xs : List X) (c : ℕ) (x : X) → slice_get xs c ≡ Some x → ((m : ℕ) (y : X) → slice_get xs m ≡ Some y → (m ≡ c → ⊥) → F (k + m, y) ≡ []) → flat_map F (numbered k xs) ≡ F (k + c, x)
  only-from F k [] c x e h = absurd (none-some x e)
  only-from F k (y ∷ xs) zero x e h =
      ap₂ (λ a b. a ++ b) (ap₂ (λ n z. F (n, z)) (sym (add-zero k)) (same_Some y x e))
      (none-numbered F (suc k) xs (λ m z g. ap (λ n. F (n, z)) (sym (plus-suc k m)) ∙ h (suc m) z g (suc-ne-zero m)))
      ∙ append-nil (F (k + 0, x))
  only-from F k (y ∷ xs) (suc c) x e h =
      ap₂ (λ a b. a ++ b) (ap (λ n. F (n, y)) (sym (add-zero k)) ∙ h 0 y refl (zero-not_suc c))
      (only-from F (suc k) xs c x e (λ m z g ne. ap (λ n. F (n, z)) (sym (plus-suc k m)) ∙ h (suc m) z g (λ f. ne (less m f))))
      ∙ ap (λ n. F (n, x)) (sym (plus-suc k c))
    where
      less : (m : ℕ) → suc m ≡ suc c → m ≡ c
      less m f = omega arith

  pub only-at : (F : ℕ × X → List Y) (xs : List X) (c : ℕ) (x : X) → slice_get xs c ≡ Some x → ((m : ℕ) (y : X) → slice_get xs m ≡ Some y → (m ≡ c → ⊥) → F (m, y) ≡ []) → flat_map F (numbered 0 xs) ≡ F (c, x)
  only-at F xs c x e h = only-from F 0 xs c x e (λ m y g ne. ap (λ n. F (n, y)) (zero-add m) ∙ h m y g ne) ∙ ap (λ n. F (n, x)) (zero-add c)

module _ {Y : Type 0} where
  -- what a list of a range has at an index
  ranged : (g : ℕ → List Y) (k n i : ℕ) → i < n → slice_index_or (map g (range_with_len k n)) i [] ≡ g (k + i)
  ranged g k zero i l = absurd (omega arith)
  ranged g k (suc n) zero l = ap g (sym (add-zero k))
  ranged g k (suc n) (suc i) l = ranged g (k + 1) n i (omega arith) ∙ ap g (more k i)
    where
      more : (a b : ℕ) → a + 1 + b ≡ a + suc b
      more a b = omega arith

  pub at-range : (g : ℕ → List Y) (n i : ℕ) → i < n → slice_index_or (map g (range_with_len 0 n)) i [] ≡ g i
  at-range g n i l = ranged g 0 n i l ∙ ap g (zero-add i)
