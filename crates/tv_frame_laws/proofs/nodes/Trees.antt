-- The trees of a step have numbers that no other step's have.
use Rattle.std.specs.Prelude.{◌≡◌, refl, ℕ, zero, suc, ◌+◌, ◌<◌, List, [], ◌∷◌, Some, slice_get}
use Rattle.std.proofs.Common.{arith, sym, ap}
use Rattle.std.proofs.lemmas.Option.{none-some, same_Some}
use Rattle.tv_value.specs.Values.{Name}
use Rattle.tv_flow.specs.Flows.{Step}
use Rattle.tv_frame.specs.Tables.{first_tree, trees_of}

-- a tree of the first step has a lower number than those of all later ones
not-later : (i m n j k : ℕ) → i < m → m ≡ n → 0 + i ≡ (n + j) + k → ⊥
not-later i m n j k l e h = omega arith

less-by : (a b c i j : ℕ) → (a + b) + i ≡ (a + c) + j → b + i ≡ c + j
less-by a b c i j h = omega arith

pub step-of_tree : (ss : List (Name × Step)) (m n : ℕ) (s t : Name × Step) (i j : ℕ) → slice_get ss m ≡ Some s → slice_get ss n ≡ Some t → i < trees_of s → j < trees_of t → first_tree ss m + i ≡ first_tree ss n + j → m ≡ n
step-of_tree [] m n s t i j a b k l h = absurd (none-some s a)
step-of_tree (x ∷ ss) zero zero s t i j a b k l h = refl
step-of_tree (x ∷ ss) zero (suc n) s t i j a b k l h = absurd (not-later i (trees_of s) (trees_of x) (first_tree ss n) j k (ap trees_of (sym (same_Some x s a))) h)
step-of_tree (x ∷ ss) (suc m) zero s t i j a b k l h = absurd (not-later j (trees_of t) (trees_of x) (first_tree ss m) i l (ap trees_of (sym (same_Some x t b))) (sym h))
step-of_tree (x ∷ ss) (suc m) (suc n) s t i j a b k l h = ap suc (step-of_tree ss m n s t i j a b k l (less-by (trees_of x) (first_tree ss m) (first_tree ss n) i j h))
