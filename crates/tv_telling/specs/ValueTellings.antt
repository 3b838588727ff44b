-- What a matcher is told of a value that is known throughout, by places alone: a value that a job gave, an input or a constant.
use Rattle.std.specs.Prelude.{ℕ, Bool, zero, suc, true, false, List, [], ◌∷◌, ◌++◌}
use Rattle.tv_value.specs.Nested.{Tree, leaf, list, Trees, no_trees, tree, Place, count}
use Rattle.tv_value.specs.Values.{Name, Scalar, fault, holds_fault, text}
use Rattle.tv_matching.specs.Told.{Told, arrival, close, faulty}

-- a value is bound, which may hold a fault
abbrev pub bound_told : Name → Place → Bool → Told
bound_told p q false = arrival p q false
bound_told p q true = faulty p q

-- of a port that walks k levels of the value, which stands at q: its lists and faults down to there, and the values below them
abbrev mutual
  pub value_told : {N : Type 0} → Name → ℕ → Place → Tree N Scalar → List Told
  value_told p zero q w = bound_told p q (holds_fault w) ∷ []
  value_told p (suc k) q (leaf n (text t)) = []
  value_told p (suc k) q (leaf n (fault e)) = arrival p q true ∷ []
  value_told p (suc k) q (list n ts) = close p q (count ts) ∷ values_told p k q 0 ts

  -- the items of the list at q, of which the first has number i
  pub values_told : {N : Type 0} → Name → ℕ → Place → ℕ → Trees N Scalar → List Told
  values_told p k q i no_trees = []
  values_told p k q i (tree t ts) = value_told p k (q ++ i ∷ []) t ++ values_told p k q (suc i) ts
