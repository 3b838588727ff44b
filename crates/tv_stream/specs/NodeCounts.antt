-- How many nodes a tree has, and how many a change of it takes.
use Rattle.std.specs.Prelude.{◌≡◌, ℕ, suc, ◌+◌, max, [], ◌∷◌}
use Rattle.tv_value.specs.Nested.{Place}
use Rattle.tv_parts.specs.Partials.{Partial, wanting, item, growing, closed, Parts, no_parts, part, part_at, map_partial}
use Rattle.tv_parts.specs.Changes.{arrive, close_at, CanArrive, CanClose}

-- at how many places something is known
abbrev mutual
  pub known_nodes : {A : Type 0} → Partial A → ℕ
  known_nodes wanting = 0
  known_nodes (item x) = 1
  known_nodes (growing ps) = suc (known_nodes_of ps)
  known_nodes (closed ps) = suc (known_nodes_of ps)

  pub known_nodes_of : {A : Type 0} → Parts A → ℕ
  known_nodes_of no_parts = 0
  known_nodes_of (part p ps) = known_nodes p + known_nodes_of ps

-- the root has a node though nothing is known
abbrev pub tree_nodes : {A : Type 0} → Partial A → ℕ
tree_nodes r = max 1 (known_nodes r)

abbrev pub one_if_wanting : {A : Type 0} → Partial A → ℕ
one_if_wanting wanting = 1
one_if_wanting (item x) = 0
one_if_wanting (growing ps) = 0
one_if_wanting (closed ps) = 0

-- how many indices of the place lead to nothing known
abbrev pub new_nodes : {A : Type 0} → Place → Partial A → ℕ
new_nodes [] r = 0
new_nodes (i ∷ q) r = one_if_wanting (part_at r i) + new_nodes q (part_at r i)

-- a change adds a node for each index that led to nothing known
pub record NodesAreAdded (A : Type 0) : Type 0 where
  pub arrival : (q : Place) (x : A) (r : Partial A) → CanArrive q r → tree_nodes (arrive q x r)
      ≡ tree_nodes r + new_nodes q r
  pub close : (q : Place) (n : ℕ) (r : Partial A) → CanClose q n r → tree_nodes (close_at q n r)
      ≡ tree_nodes r + new_nodes q r

-- with other items a tree has as many nodes
abbrev pub AsManyNodes : Type 0 → Type 0 → Type 0
AsManyNodes A B = (f : A → B) (r : Partial A) → tree_nodes (map_partial f r) ≡ tree_nodes r
