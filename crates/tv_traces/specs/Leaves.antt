-- The places of the leaves of a value.
use Rattle.std.specs.Prelude.{ℕ, suc, List, [], ◌∷◌, ◌++◌}
use Rattle.tv_value.specs.Nested.{Place, Tree, Trees, leaf, list, no_trees, tree}

-- below a place, in order
abbrev mutual
  pub leaf_places : {N A : Type 0} → Place → Tree N A → List Place
  leaf_places q (leaf n a) = q ∷ []
  leaf_places q (list n ts) = places_from q 0 ts

  pub places_from : {N A : Type 0} → Place → ℕ → Trees N A → List Place
  places_from q i no_trees = []
  places_from q i (tree t ts) = leaf_places (q ++ i ∷ []) t ++ places_from q (suc i) ts
