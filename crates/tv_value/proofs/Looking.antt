-- Looking at a place, index by index, and prefixes of places.
use Rattle.std.specs.Prelude.{◌≡◌, ℕ, zero, suc, ◌<◌, ◌≤◌, List, [], ◌∷◌, length, take, map, refl, Some, None, false, ◌==◌, ◌&&◌}
use Rattle.std.proofs.Common.{arith, ap, ◌∙◌, get_or, nat_eq}
use Rattle.std.specs.Cmp.Lexicographic.{pointwise}
use Rattle.std.proofs.Math.Bool.{and-false}
use Rattle.tv_value.specs.Nested.{Tree, trees_of, item_at, Place}
use Rattle.tv_value.specs.Orders.{is_prefix}

module _ {N A X : Type 0} (f : X → Tree N A) where
  pub item_at-each : (xs : List X) (i : ℕ) (d : X) → i < length xs → item_at (trees_of (map f xs)) i ≡ Some (f (get_or xs i d))
  item_at-each [] i d h = absurd (none i h)
    where
      none : (i : ℕ) → i < 0 → ⊥
      none i p = omega arith
  item_at-each (x ∷ xs) zero d h = refl
  item_at-each (x ∷ xs) (suc i) d h = item_at-each xs i d (omega arith)

  pub item_at-past : (xs : List X) (i : ℕ) → length xs ≤ i → item_at (trees_of (map f xs)) i ≡ None
  item_at-past [] i h = refl
  item_at-past (x ∷ xs) zero h = absurd (none (length xs) h)
    where
      none : (n : ℕ) → suc n ≤ 0 → ⊥
      none n p = omega arith
  item_at-past (x ∷ xs) (suc i) h = item_at-past xs i (omega arith)

-- a place is a prefix where the first part of the other, as long as it, is equal to it
pub is_prefix-take : (q r : Place) → length q ≤ length r → pointwise nat_eq q (take (length q) r) ≡ is_prefix q r
is_prefix-take [] r h = refl
is_prefix-take (i ∷ q) [] h = absurd (none (length q) h)
  where
    none : (n : ℕ) → suc n ≤ 0 → ⊥
    none n p = omega arith
is_prefix-take (i ∷ q) (j ∷ r) h = ap (λ b. (i == j) && b) (is_prefix-take q r (omega arith))

pub is_prefix-longer : (q r : Place) → length r < length q → is_prefix q r ≡ false
is_prefix-longer [] r h = absurd (none (length r) h)
  where
    none : (n : ℕ) → n < 0 → ⊥
    none n p = omega arith
is_prefix-longer (i ∷ q) [] h = refl
is_prefix-longer (i ∷ q) (j ∷ r) h = ap (λ b. (i == j) && b) (is_prefix-longer q r (omega arith)) ∙ and-false (i == j)
