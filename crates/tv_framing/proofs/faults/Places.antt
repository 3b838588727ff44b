-- What stands at places of outputs and of values without their origins.
use Rattle.std.specs.Prelude.{◌≡◌, refl, ℕ, zero, suc, [], ◌∷◌, take, Option, Some, None, option_and_then}
use Rattle.std.proofs.Common.{ap}
use Rattle.std.proofs.lemmas.Option.{none-some, same_Some}
use Rattle.tv_value.specs.Nested.{Place, Tree, Trees, at, children, item_at, leaf, list, map_tree, map_trees, no_trees, tree}
use Rattle.tv_value.specs.Values.{Scalar}

mutual
  pub mapped-at : {N M : Type 0} (f : N → M) (t : Tree N Scalar) (q : Place) (u : Tree N Scalar) → at t q ≡ Some u → at (map_tree f (λ a. a) t) q ≡ Some (map_tree f (λ a. a) u)
  mapped-at f t [] u h = ap (λ x. Some (map_tree f (λ a. a) x)) (same_Some t u h)
  mapped-at f (leaf n a) (i ∷ q) u h = absurd (none-some u h)
  mapped-at f (list n ts) (i ∷ q) u h = all-mapped-at f ts i q u h

  all-mapped-at : {N M : Type 0} (f : N → M) (ts : Trees N Scalar) (i : ℕ) (q : Place) (u : Tree N Scalar) → option_and_then (λ x. at x q) (item_at ts i) ≡ Some u → option_and_then (λ x. at x q) (item_at (map_trees f (λ a. a) ts) i) ≡ Some (map_tree f (λ a. a) u)
  all-mapped-at f no_trees i q u h = absurd (none-some u h)
  all-mapped-at f (tree t ts) zero q u h = mapped-at f t q u h
  all-mapped-at f (tree t ts) (suc i) q u h = all-mapped-at f ts i q u h

-- where something stands, something stands at each prefix
pub prefix-at : {N A : Type 0} (t : Tree N A) (q : Place) (k : ℕ) (u : Tree N A) → at t q ≡ Some u → (w : Tree N A) × (at t (take k q) ≡ Some w)
prefix-at t q zero u h = (t, refl)
prefix-at t [] (suc k) u h = (t, refl)
prefix-at {N = N} {A = A} t (i ∷ q) (suc k) u h = by (item_at (children t) i) h (λ x g. prefix-at x q k u g)
  where
    by : (o : Option (Tree N A)) → option_and_then (λ x. at x q) o ≡ Some u → ((x : Tree N A) → at x q ≡ Some u → (w : Tree N A) × (at x (take k q) ≡ Some w)) → (w : Tree N A) × (option_and_then (λ x. at x (take k q)) o ≡ Some w)
    by None g rec = absurd (none-some u g)
    by (Some x) g rec = rec x g
