-- The iterations of a walk, crossed with what stands inside: how deep they are, and what their jobs bind.
use Rattle.std.specs.Prelude.{List, [], suc, zero, ℕ, ◌++◌, ◌∷◌}
use Rattle.tv_value.specs.Nested.{Trees, leaf, list, map_trees, no_trees, tree}
use Rattle.tv_value.specs.Values.{Name, Scalar}
use Rattle.tv_strategy.specs.Iterations.{Binding, Iteration, Iterations, added, crossed, each_crossed, end_with, one_job, walk, walk_each}
use Rattle.tv_strategy.specs.Origins.{Origin, Traced}
use Rattle.tv_generator.proofs.totals.Walked.{AllEven, Even}
use Rattle.tv_generator.proofs.totals.Found.{AllJobs, AllOfThem}

-- so many levels more
abbrev pub deeper : ℕ → ℕ → ℕ
deeper zero e = e
deeper (suc d) e = suc (deeper d e)

module _ (s : List Origin) (b : Binding) where
  mutual
    added-even : (e : ℕ) (t : Iteration) → Even e t → Even e (added s b t)
    added-even zero (leaf r a) h = tt
    added-even (suc e) (leaf r a) h = absurd h
    added-even zero (list r ts) h = absurd h
    added-even (suc e) (list r ts) h = all-added-even e ts h

    all-added-even : (e : ℕ) (ts : Iterations) → AllEven e ts → AllEven e (map_trees (λ r. s ++ r) (end_with b) ts)
    all-added-even e no_trees h = tt
    all-added-even e (tree t ts) h = (added-even e t h.0, all-added-even e ts h.1)

module _ (p : Name) (inner : Iteration) where
  module _ (e : ℕ) (deep : Even e inner) where
    mutual
      pub crossed-even : (d : ℕ) (v : Traced) → Even d v → Even (deeper d e) (crossed (walk p d v) inner)
      crossed-even zero (leaf o a) h = added-even (o ∷ []) ((p, leaf o a) ∷ []) e inner deep
      crossed-even zero (list o ts) h = absurd h
      crossed-even (suc d) (leaf o a) h = absurd h
      crossed-even (suc d) (list o ts) h = all-crossed-even d ts h

      all-crossed-even : (d : ℕ) (ts : Trees Origin Scalar) → AllEven d ts → AllEven (deeper d e) (each_crossed (walk_each p d ts) inner)
      all-crossed-even d no_trees h = tt
      all-crossed-even d (tree t ts) h = (crossed-even d t h.0, all-crossed-even d ts h.1)

  module _ (P : List Origin → Binding → Type 0) (ends : (o : Origin) (a : Scalar) → AllJobs P (added (o ∷ []) ((p, leaf o a) ∷ []) inner)) where
    mutual
      pub crossed-jobs : (d : ℕ) (v : Traced) → Even d v → AllJobs P (crossed (walk p d v) inner)
      crossed-jobs zero (leaf o a) h = ends o a
      crossed-jobs zero (list o ts) h = absurd h
      crossed-jobs (suc d) (leaf o a) h = absurd h
      crossed-jobs (suc d) (list o ts) h = all-crossed-jobs d ts h

      all-crossed-jobs : (d : ℕ) (ts : Trees Origin Scalar) → AllEven d ts → AllOfThem P (each_crossed (walk_each p d ts) inner)
      all-crossed-jobs d no_trees h = tt
      all-crossed-jobs d (tree t ts) h = (crossed-jobs d t h.0, all-crossed-jobs d ts h.1)

module _ (p : Name) (s : List Origin) (b : Binding) (P : List Origin → Binding → Type 0) (ends : (o : Origin) (a : Scalar) → P (s ++ o ∷ []) (b ++ (p, leaf o a) ∷ [])) where
  mutual
    pub last-jobs : (d : ℕ) (v : Traced) → Even d v → AllJobs P (added s b (crossed (walk p d v) one_job))
    last-jobs zero (leaf o a) h = ends o a
    last-jobs zero (list o ts) h = absurd h
    last-jobs (suc d) (leaf o a) h = absurd h
    last-jobs (suc d) (list o ts) h = all-last-jobs d ts h

    all-last-jobs : (d : ℕ) (ts : Trees Origin Scalar) → AllEven d ts → AllOfThem P (map_trees (λ r. s ++ r) (end_with b) (each_crossed (walk_each p d ts) one_job))
    all-last-jobs d no_trees h = tt
    all-last-jobs d (tree t ts) h = (last-jobs d t h.0, all-last-jobs d ts h.1)
