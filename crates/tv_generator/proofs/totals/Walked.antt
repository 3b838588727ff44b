-- What stands at the nodes of an iteration over lists in lists, by the leaves of what is walked.
use Rattle.std.specs.Prelude.{List, [], flat_map, refl, suc, zero, ℕ, ◌++◌, ◌∷◌, ◌≡◌}
use Rattle.std.proofs.Common.{ap, ap₂, append-nil, sym, ◌∙◌}
use Rattle.std.proofs.lemmas.Grind.{flat_map-append}
use Rattle.tv_value.specs.Nested.{Place, Tree, Trees, all_leaves, leaf, leaves, list, map_trees, no_trees, nodes_below, nodes_from, tree}
use Rattle.tv_value.specs.Values.{Name, Scalar}
use Rattle.tv_strategy.specs.Iterations.{Binding, Iteration, Iterations, added, crossed, each_crossed, end_with, job, one_job, walk, walk_each}
use Rattle.tv_strategy.specs.Origins.{Origin, Traced}

-- lists in lists, so many levels deep, and then leaves
abbrev mutual
  pub Even : {N A : Type 0} → ℕ → Tree N A → Type 0
  Even zero (leaf n a) = Unit {0}
  Even zero (list n ts) = ⊥
  Even (suc d) (leaf n a) = ⊥
  Even (suc d) (list n ts) = AllEven d ts

  pub AllEven : {N A : Type 0} → ℕ → Trees N A → Type 0
  AllEven d no_trees = Unit {0}
  AllEven d (tree t ts) = Even d t × AllEven d ts

module _ {B : Type 0} (K : Place × Iteration → List B) (lists : (q : Place) (s : List Origin) (ts : Iterations) → K (q, list s ts) ≡ []) (p : Name) (k : Scalar → List B) where
  -- a port that walks so many levels, and what stands inside
  module _ (inner : Iteration) (ends : (q : Place) (o : Origin) (a : Scalar) → flat_map K (nodes_below q (added (o ∷ []) ((p, leaf o a) ∷ []) inner)) ≡ k a) where
    mutual
      pub walked : (d : ℕ) (v : Traced) → Even d v → (q : Place) → flat_map K (nodes_below q (crossed (walk p d v) inner)) ≡ flat_map k (leaves v)
      walked zero (leaf o a) e q = ends q o a ∙ sym (append-nil (k a))
      walked zero (list o ts) e q = absurd e
      walked (suc d) (leaf o a) e q = absurd e
      walked (suc d) (list o ts) e q =
          ap (λ l. l ++ flat_map K (nodes_from q 0 (each_crossed (walk_each p d ts) inner))) (lists q (o ∷ []) (each_crossed (walk_each p d ts) inner)) ∙ all-walked d ts e q 0

      all-walked : (d : ℕ) (ts : Trees Origin Scalar) → AllEven d ts → (q : Place) (i : ℕ) → flat_map K (nodes_from q i (each_crossed (walk_each p d ts) inner)) ≡ flat_map k (all_leaves ts)
      all-walked d no_trees e q i = refl
      all-walked d (tree t ts) e q i =
          flat_map-append K (nodes_below (q ++ i ∷ []) (crossed (walk p d t) inner)) (nodes_from q (suc i) (each_crossed (walk_each p d ts) inner))
          ∙ ap₂ (λ a b. a ++ b) (walked d t e.0 (q ++ i ∷ [])) (all-walked d ts e.1 q (suc i))
          ∙ sym (flat_map-append k (leaves t) (all_leaves ts))

  -- the last port, beside what the ports before it bind
  module _ (s : List Origin) (b : Binding) (ends : (q : Place) (o : Origin) (a : Scalar) → K (q, leaf (s ++ o ∷ []) (job (b ++ (p, leaf o a) ∷ []))) ≡ k a) where
    mutual
      pub walked-last : (d : ℕ) (v : Traced) → Even d v → (q : Place) → flat_map K (nodes_below q (added s b (crossed (walk p d v) one_job))) ≡ flat_map k (leaves v)
      walked-last zero (leaf o a) e q = ap (λ l. l ++ []) (ends q o a)
      walked-last zero (list o ts) e q = absurd e
      walked-last (suc d) (leaf o a) e q = absurd e
      walked-last (suc d) (list o ts) e q =
          ap (λ l. l ++ flat_map K (nodes_from q 0 (map_trees (λ r. s ++ r) (end_with b) (each_crossed (walk_each p d ts) one_job)))) (lists q (s ++ o ∷ []) (map_trees (λ r. s ++ r) (end_with b) (each_crossed (walk_each p d ts) one_job))) ∙ all-walked-last d ts e q 0

      all-walked-last : (d : ℕ) (ts : Trees Origin Scalar) → AllEven d ts → (q : Place) (i : ℕ) → flat_map K (nodes_from q i (map_trees (λ r. s ++ r) (end_with b) (each_crossed (walk_each p d ts) one_job))) ≡ flat_map k (all_leaves ts)
      all-walked-last d no_trees e q i = refl
      all-walked-last d (tree t ts) e q i =
          flat_map-append K (nodes_below (q ++ i ∷ []) (added s b (crossed (walk p d t) one_job))) (nodes_from q (suc i) (map_trees (λ r. s ++ r) (end_with b) (each_crossed (walk_each p d ts) one_job)))
          ∙ ap₂ (λ a b. a ++ b) (walked-last d t e.0 (q ++ i ∷ [])) (all-walked-last d ts e.1 q (suc i))
          ∙ sym (flat_map-append k (leaves t) (all_leaves ts))
