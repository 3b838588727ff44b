-- What is so of every node of a value, and of every source of an iteration.
use Rattle.std.specs.Prelude.{ℕ, suc, [], ◌∷◌, ◌++◌}
use Rattle.tv_lemmas.specs.Members.{Each}
use Rattle.tv_value.specs.Nested.{leaf, list, Trees, no_trees, tree, Place}
use Rattle.tv_value.specs.Values.{Scalar}
use Rattle.tv_strategy.specs.Origins.{Origin, Traced}
use Rattle.tv_strategy.specs.Iterations.{End, job, passed, Iteration, Iterations}

module _ (P : Origin → Type 0) where
  -- P holds at every node
  abbrev mutual
    pub AtNodes : Traced → Type 0
    AtNodes (leaf o a) = P o
    AtNodes (list o vs) = P o × AtAllNodes vs

    pub AtAllNodes : Trees Origin Scalar → Type 0
    AtAllNodes no_trees = Unit {0}
    AtAllNodes (tree v vs) = AtNodes v × AtAllNodes vs

  abbrev pub EndHas : End → Type 0
  EndHas (job b) = Each (λ r. AtNodes r.1) b
  EndHas (passed m e) = Unit {0}

  -- P holds of every source, and at every node of every bound value
  abbrev mutual
    pub SourcesHave : Iteration → Type 0
    SourcesHave (leaf s e) = Each P s × EndHas e
    SourcesHave (list s ts) = Each P s × AllSourcesHave ts

    pub AllSourcesHave : Iterations → Type 0
    AllSourcesHave no_trees = Unit {0}
    AllSourcesHave (tree t ts) = SourcesHave t × AllSourcesHave ts

-- J holds of the place of every job
module _ (J : Place → Type 0) where
  abbrev pub EndStands : Place → End → Type 0
  EndStands q (job b) = J q
  EndStands q (passed m e) = Unit {0}

  abbrev mutual
    pub JobsStand : Place → Iteration → Type 0
    JobsStand q (leaf s e) = EndStands q e
    JobsStand q (list s ts) = JobsStandFrom q 0 ts

    pub JobsStandFrom : Place → ℕ → Iterations → Type 0
    JobsStandFrom q i no_trees = Unit {0}
    JobsStandFrom q i (tree t ts) = JobsStand (q ++ i ∷ []) t × JobsStandFrom q (suc i) ts
