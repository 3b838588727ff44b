-- Texts joined with a byte between each two, one text more at a time.
use Rattle.std.specs.Prelude.{◌≡◌, ℕ, zero, suc, ◌+◌, ◌<◌, List, [], ◌∷◌, ◌++◌, length, take, map, refl}
use Rattle.std.specs.List.{join_with_byte}
use Rattle.tv_json.specs.Joined.{between}
use Rattle.std.proofs.Common.{ap, sym, ◌∙◌, arith, get_or, append_assoc}

module _ {X : Type 0} (c : ℕ) (f : X → List ℕ) where
  abbrev pub joined : List X → List ℕ
  joined xs = join_with_byte c (map f xs)

  none : (i : ℕ) → i < 0 → ⊥
  none i p = omega arith

  one : (i : ℕ) → suc i < 1 → ⊥
  one i p = omega arith

  pub joined-first : (xs : List X) (d : X) → 0 < length xs → joined (take 1 xs) ≡ f (get_or xs 0 d)
  joined-first [] d h = absurd (none 0 h)
  joined-first (x ∷ xs) d h = refl

  joined-next : (xs : List X) (i : ℕ) (d : X) → suc i < length xs → joined (take (suc (suc i)) xs) ≡ (joined (take (suc i) xs) ++ c ∷ []) ++ f (get_or xs (suc i) d)
  joined-next [] i d h = absurd (none (suc i) h)
  joined-next (x ∷ []) i d h = absurd (one i h)
  joined-next (x ∷ y ∷ zs) zero d h = sym (append_assoc (f x) (c ∷ []) (f y))
  joined-next (x ∷ y ∷ zs) (suc i) d h =
      ap (λ t. f x ++ (c ∷ t)) (joined-next (y ∷ zs) i d (omega arith))
      ∙ sym (regroup (f x) (joined (take (suc i) (y ∷ zs))) (f (get_or (y ∷ zs) (suc i) d)))
    where
      regroup : (a b e : List ℕ) → ((a ++ (c ∷ b)) ++ c ∷ []) ++ e ≡ a ++ (c ∷ ((b ++ c ∷ []) ++ e))
      regroup a b e = simp append_assoc

  more : (i : ℕ) → i + 1 ≡ suc i
  more i = omega arith

  step : (xs : List X) (i : ℕ) (d : X) → i < length xs → joined (take (suc i) xs) ≡ joined (take i xs) ++ (between i (c ∷ []) ++ f (get_or xs i d))
  step xs zero d h = joined-first xs d h
  step xs (suc i) d h = joined-next xs i d h ∙ append_assoc (joined (take (suc i) xs)) (c ∷ []) (f (get_or xs (suc i) d))

  -- one text more
  pub joined-step : (xs : List X) (i : ℕ) (d : X) → i < length xs → joined (take (i + 1) xs) ≡ joined (take i xs) ++ (between i (c ∷ []) ++ f (get_or xs i d))
  joined-step xs i d h = ap (λ n. joined (take n xs)) (more i) ∙ step xs i d h

  -- a text grown by a separator and one text more
  pub joined-on : (a t u v : List ℕ) (xs : List X) (i : ℕ) (d : X) → i < length xs → t ≡ a ++ joined (take i xs) → u ≡ t ++ between i (c ∷ []) → v ≡ u ++ f (get_or xs i d) → v ≡ a ++ joined (take (i + 1) xs)
  joined-on a t u v xs i d h e p q =
      let b = between i (c ∷ []) in
      let w = f (get_or xs i d) in
      q
      ∙ ap (λ s. s ++ w) p
      ∙ append_assoc t b w
      ∙ ap (λ s. s ++ (b ++ w)) e
      ∙ append_assoc a (joined (take i xs)) (b ++ w)
      ∙ ap (λ s. a ++ s) (sym (joined-step xs i d h))
