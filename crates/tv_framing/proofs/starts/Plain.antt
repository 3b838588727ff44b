-- Values without their origins: the same leaves, so the same faults.
use Rattle.std.specs.List.{list_any}
use Rattle.std.specs.Prelude.{◌≡◌, refl, ℕ, suc, [], ◌∷◌, ◌++◌}
use Rattle.std.proofs.Common.{ap, ap₂}
use Rattle.tv_value.specs.Nested.{Place, Tree, Trees, all_leaves, leaf, leaves, list, map_tree, map_trees, no_trees, tree}
use Rattle.tv_value.specs.Values.{Name, Scalar, Value, holds_fault, is_fault}
use Rattle.tv_strategy.specs.Origins.{Origin, input_value, input_values, plain, traced}

mutual
  pub plain-traced : (o : Origin) (v : Value) → plain (traced o v) ≡ v
  plain-traced o (leaf n a) = refl
  plain-traced o (list n vs) = ap (λ x. list tt x) (plains-traced o vs)

  plains-traced : (o : Origin) (vs : Trees (Unit {0}) Scalar) → map_trees (λ o. tt) (λ a. a) (map_trees (λ _. o) (λ a. a) vs) ≡ vs
  plains-traced o no_trees = refl
  plains-traced o (tree v vs) = ap₂ (λ a b. tree a b) (plain-traced o v) (plains-traced o vs)

mutual
  pub plain-input : (x : Name) (q : Place) (v : Value) → plain (input_value x q v) ≡ v
  plain-input x q (leaf n a) = refl
  plain-input x q (list n vs) = ap (λ y. list tt y) (plain-inputs x q 0 vs)

  plain-inputs : (x : Name) (q : Place) (i : ℕ) (vs : Trees (Unit {0}) Scalar) → map_trees (λ o. tt) (λ a. a) (input_values x q i vs) ≡ vs
  plain-inputs x q i no_trees = refl
  plain-inputs x q i (tree v vs) = ap₂ (λ a b. tree a b) (plain-input x (q ++ i ∷ []) v) (plain-inputs x q (suc i) vs)

mutual
  same-leaves : {N M : Type 0} (f : N → M) (t : Tree N Scalar) → leaves (map_tree f (λ a. a) t) ≡ leaves t
  same-leaves f (leaf n a) = refl
  same-leaves f (list n ts) = all_same-leaves f ts

  all_same-leaves : {N M : Type 0} (f : N → M) (ts : Trees N Scalar) → all_leaves (map_trees f (λ a. a) ts) ≡ all_leaves ts
  all_same-leaves f no_trees = refl
  all_same-leaves f (tree t ts) = ap₂ (λ a b. a ++ b) (same-leaves f t) (all_same-leaves f ts)

pub same-faults : {N M : Type 0} (f : N → M) (t : Tree N Scalar) → holds_fault (map_tree f (λ a. a) t) ≡ holds_fault t
same-faults f t = ap (list_any is_fault) (same-leaves f t)
