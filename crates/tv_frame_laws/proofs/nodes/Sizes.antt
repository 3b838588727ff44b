-- How many nodes an output of a step has: as many whatever the depths are, and as many as the iteration where each job gives one.
use Rattle.std.specs.Prelude.{◌≡◌, refl, ℕ, suc, ◌+◌, pred, List, [], ◌∷◌, ◌++◌, length}
use Rattle.std.proofs.Common.{ap, ap₂, sym, ◌∙◌}
use Rattle.std.proofs.lemmas.List.{length-append}
use Rattle.tv_value.specs.Nested.{Tree, Trees, leaf, list, no_trees, tree, Place, notes, all_notes, map_tree, map_trees}
use Rattle.tv_value.specs.Values.{JobName, Value}
use Rattle.tv_strategy.specs.Iterations.{Iteration, Iterations, job, passed}
use Rattle.tv_strategy.specs.Origins.{Traced, plain}
use Rattle.tv_strategy.specs.Outputs.{output_below, outputs_from}

-- a tree with other notes and other things has as many nodes
mutual
  as-many : {N M A B : Type 0} (f : N → M) (g : A → B) (t : Tree N A) → length (notes (map_tree f g t)) ≡ length (notes t)
  as-many f g (leaf n a) = refl
  as-many f g (list n ts) = ap suc (all-as-many f g ts)

  all-as-many : {N M A B : Type 0} (f : N → M) (g : A → B) (ts : Trees N A) → length (all_notes (map_trees f g ts)) ≡ length (all_notes ts)
  all-as-many f g no_trees = refl
  all-as-many f g (tree t ts) =
      length-append (notes (map_tree f g t)) (all_notes (map_trees f g ts))
      ∙ ap₂ (λ a b. a + b) (as-many f g t) (all-as-many f g ts)
      ∙ sym (length-append (notes t) (all_notes ts))

pub plain-size : (t : Traced) → length (notes (plain t)) ≡ length (notes t)
plain-size t = as-many (λ o. tt) (λ a. a) t

-- ---- whatever the depths are

module _ (named : Place → JobName) (made : Place → Value) (d e : ℕ) where
  mutual
    pub any-depth : (t : Iteration) (q : Place) (l m : ℕ)
        → length (notes (output_below named made d q l t)) ≡ length (notes (output_below named made e q m t))
    any-depth (leaf s (job b)) q l m = refl
    any-depth (leaf s (passed n g)) q l m = refl
    any-depth (list s ts) q l m = ap suc (all-any-depth ts q (pred l) (pred m) 0)

    all-any-depth : (ts : Iterations) (q : Place) (l m i : ℕ)
        → length (all_notes (outputs_from named made d q l i ts)) ≡ length (all_notes (outputs_from named made e q m i ts))
    all-any-depth no_trees q l m i = refl
    all-any-depth (tree t ts) q l m i =
        length-append (notes (output_below named made d (q ++ i ∷ []) l t)) (all_notes (outputs_from named made d q l (suc i) ts))
        ∙ ap₂ (λ a b. a + b) (any-depth t (q ++ i ∷ []) l m) (all-any-depth ts q l m (suc i))
        ∙ sym (length-append (notes (output_below named made e (q ++ i ∷ []) m t)) (all_notes (outputs_from named made e q m (suc i) ts)))

-- ---- where each job gives one node

module _ (named : Place → JobName) (made : Place → Value) (d : ℕ) (one : (q : Place) → length (notes (made q)) ≡ 1) where
  mutual
    pub ones-size : (t : Iteration) (q : Place) (l : ℕ) → length (notes (output_below named made d q l t)) ≡ length (notes t)
    ones-size (leaf s (job b)) q l = as-many (λ o. _) (λ a. a) (made q) ∙ one q
    ones-size (leaf s (passed n g)) q l = refl
    ones-size (list s ts) q l = ap suc (all-ones-size ts q (pred l) 0)

    all-ones-size : (ts : Iterations) (q : Place) (l i : ℕ) → length (all_notes (outputs_from named made d q l i ts)) ≡ length (all_notes ts)
    all-ones-size no_trees q l i = refl
    all-ones-size (tree t ts) q l i =
        length-append (notes (output_below named made d (q ++ i ∷ []) l t)) (all_notes (outputs_from named made d q l (suc i) ts))
        ∙ ap₂ (λ a b. a + b) (ones-size t (q ++ i ∷ []) l) (all-ones-size ts q l (suc i))
        ∙ sym (length-append (notes t) (all_notes ts))
