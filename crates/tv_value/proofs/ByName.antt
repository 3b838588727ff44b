-- Looking for a name in a list, item by item.
use Rattle.std.specs.Prelude.{◌≡◌, ℕ, zero, suc, ◌+◌, ◌<◌, ◌≤◌, List, [], ◌∷◌, length, drop, true, false, if◌then◌else◌, Some, None}
use Rattle.std.proofs.Common.{arith, get_or, ap, sym, ◌∙◌}
use Rattle.std.proofs.lemmas.List.{drop_all}
use Rattle.std.proofs.Math.Numerals.{suc-eq-add-one}
use Rattle.tv_value.specs.Values.{Name}
use Rattle.tv_value.specs.Orders.{same_name, named}

module _ {A : Type 0} (n : Name) where
  named-drop : (xs : List (Name × A)) (i : ℕ) (x : Name × A) → i < length xs → x ≡ get_or xs i x → named n (drop i xs) ≡ (if same_name n x.0 then Some x.1 else named n (drop (suc i) xs))
  named-drop [] i x h e = absurd (none i h)
    where
      none : (i : ℕ) → i < 0 → ⊥
      none i p = omega arith
  named-drop (y ∷ xs) zero x h e = ap (λ z. if same_name n z.0 then Some z.1 else named n xs) (sym e)
  named-drop (y ∷ xs) (suc i) x h e = named-drop xs i x (omega arith) e

  pub named-found : (xs : List (Name × A)) (i : ℕ) (x : Name × A) → i < length xs → x ≡ get_or xs i x → same_name n x.0 ≡ true → named n (drop i xs) ≡ Some x.1
  named-found xs i x h e s = named-drop xs i x h e ∙ ap (λ b. if b then Some x.1 else named n (drop (suc i) xs)) s

  pub named-passed : (xs : List (Name × A)) (i : ℕ) (x : Name × A) → i < length xs → x ≡ get_or xs i x → same_name n x.0 ≡ false → named n (drop i xs) ≡ named n (drop (i + 1) xs)
  named-passed xs i x h e s =
      named-drop xs i x h e
      ∙ ap (λ b. if b then Some x.1 else named n (drop (suc i) xs)) s
      ∙ ap (λ k. named n (drop k xs)) (suc-eq-add-one i)

  pub named-nowhere : (xs : List (Name × A)) (i : ℕ) → length xs ≤ i → named n (drop i xs) ≡ None
  named-nowhere xs i h = ap (named n) (drop_all i xs h)
