-- An item is smaller than its list.
use Rattle.std.specs.Prelude.{◌≡◌, ℕ, zero, suc, ◌+◌, ◌<◌, List, [], ◌∷◌, length, map}
use Rattle.std.proofs.Common.{arith, get_or, ap}
use Rattle.tv_value.specs.Nested.{Trees, leaf, list, no_trees, tree, trees_of}
use Rattle.tv_value.specs.Values.{Scalar, Value}

abbrev mutual
  pub size : Value → ℕ
  size (leaf n a) = 0
  size (list n ts) = suc (sizes ts)

  pub sizes : Trees (Unit {0}) Scalar → ℕ
  sizes no_trees = 0
  sizes (tree t ts) = suc (size t + sizes ts)

pub item-smaller : {X : Type 0} (f : X → Value) (xs : List X) (i : ℕ) (x : X) → i < length xs
    → x ≡ get_or xs i x → size (f x) < sizes (trees_of (map f xs))
item-smaller f [] i x k e = absurd (omega arith)
item-smaller f (y ∷ xs) zero x k e = let same : size (f x) ≡ size (f y) = ap (λ z. size (f z)) e in omega (arith, same)
item-smaller f (y ∷ xs) (suc i) x k e = let less = item-smaller f xs i x (omega arith) e in omega (arith, less)
