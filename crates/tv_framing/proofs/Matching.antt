-- What a step's matcher holds after these events: by the laws of matching, and what it is told at the start.
use Rattle.std.specs.Prelude.{◌≡◌, refl, ℕ, zero, suc, List, [], ◌∷◌, ◌++◌, Bool, true, false, ◌&&◌, map, IsPermutation}
use Rattle.std.proofs.Common.{ap, ap₂}
use Rattle.std.proofs.lemmas.Bool.{and_left}
use Rattle.tv_lemmas.specs.Members.{Each}
use Rattle.tv_value.specs.Nested.{leaf, list, Trees, no_trees, tree, all_notes, notes}
use Rattle.tv_value.specs.Values.{JobName, Name, Scalar}
use Rattle.tv_flow.specs.Flows.{Step}
use Rattle.tv_strategy.specs.Iterations.{walk, walk_each}
use Rattle.tv_strategy.specs.Levels.{HasLevels}
use Rattle.tv_strategy.specs.Measures.{DotsAgree}
use Rattle.tv_strategy.specs.Origins.{Origin, Traced}
use Rattle.tv_strategy.specs.Sources.{AtAllNodes, AtNodes}
use Rattle.tv_strategy.proofs.Sources.{notes-have}
use Rattle.tv_model.specs.instance.Delivered.{Delivered}
use Rattle.tv_model.specs.instance.Steps.{port_iteration, port_mismatch, strategy_of}
use Rattle.tv_matching.specs.Items.{Bound, Item, Stopped, all_known, if_so, known_from, known_items, within}
use Rattle.tv_matching.specs.Matched.{matched}
use Rattle.tv_matching.proofs.Matches.{matched-known}
use Rattle.tv_framing.proofs.Gaining.{none-if}
use Rattle.tv_framing.specs.Gaining.{all_items}
use Rattle.tv_model.specs.instance.ByResults.{InstanceStep, Results, step_by}

-- ---- matched after these events: jobs, lists and faults whose sources are known

module _ (known : Origin → Bool) (instance : JobName) (results : Results) (given : List (Name × Delivered)) (fs : List InstanceStep) (n : Name) (s : Step) where
  abbrev new : InstanceStep
  new = step_by instance results given fs (n, s)

  pub step-matches : ((p : Name) → HasLevels (port_iteration new.step.inputs p) (port_mismatch new.step.inputs p)) → DotsAgree (port_mismatch new.step.inputs) (strategy_of s) → (told : Name → List (Item Bound Stopped)) → ((p : Name) → IsPermutation (told p) (known_items known (port_iteration new.step.inputs p))) → IsPermutation (matched told (strategy_of s)) (known_items known new.step.iteration)
  step-matches levels agree told agrees = matched-known known (port_iteration new.step.inputs) (port_mismatch new.step.inputs) levels told agrees (strategy_of s) agree

-- ---- values that are all known, or not at all

same-if : {A : Type 0} (b c : Bool) (x : A) → b ≡ c → if_so b x ≡ if_so c x
same-if b c x e = ap (λ d. if_so d x) e

module _ (known : Origin → Bool) where
  all-so : (os : List Origin) → Each (λ o. known o ≡ true) os → all_known known os ≡ all_known (λ o. true) os
  all-so [] h = refl
  all-so (o ∷ os) h = ap₂ (λ a b. a && b) h.0 (all-so os h.1)

  mutual
    -- inputs and constants are told whole at the start
    pub all-told : (p : Name) (k : ℕ) (v : Traced) → AtNodes (λ o. known o ≡ true) v → known_items known (walk p k v) ≡ all_items (walk p k v)
    all-told p zero v h = same-if _ _ _ (all-so (notes v) (notes-have (λ o. known o ≡ true) v h))
    all-told p (suc k) (leaf o a) h = same-if _ _ _ (all-so (o ∷ []) (h, tt))
    all-told p (suc k) (list o vs) h = ap₂ (λ a b. a ++ b) (same-if _ _ _ (all-so (o ∷ []) (h.0, tt))) (all-told_from p k 0 vs h.1)

    all-told_from : (p : Name) (k i : ℕ) (vs : Trees Origin Scalar) → AtAllNodes (λ o. known o ≡ true) vs → known_from known i (walk_each p k vs) ≡ known_from (λ o. true) i (walk_each p k vs)
    all-told_from p k i no_trees h = refl
    all-told_from p k i (tree v vs) h = ap₂ (λ a b. map (within i) a ++ b) (all-told p k v h.0) (all-told_from p k (suc i) vs h.1)

  first-not : (v : Traced) → AtNodes (λ o. known o ≡ false) v → all_known known (notes v) ≡ false
  first-not (leaf o a) h = ap (λ b. b && true) h
  first-not (list o vs) h = and_left (known o) (all_known known (all_notes vs)) h.0

  mutual
    -- of an output nothing is told at the start
    pub none-told : (p : Name) (k : ℕ) (v : Traced) → AtNodes (λ o. known o ≡ false) v → known_items known (walk p k v) ≡ []
    none-told p zero v h = none-if _ _ (first-not v h)
    none-told p (suc k) (leaf o a) h = none-if _ _ (ap (λ b. b && true) h)
    none-told p (suc k) (list o vs) h = ap₂ (λ a b. a ++ b) (none-if _ _ (ap (λ b. b && true) h.0)) (none-told_from p k 0 vs h.1)

    none-told_from : (p : Name) (k i : ℕ) (vs : Trees Origin Scalar) → AtAllNodes (λ o. known o ≡ false) vs → known_from known i (walk_each p k vs) ≡ []
    none-told_from p k i no_trees h = refl
    none-told_from p k i (tree v vs) h = ap₂ (λ a b. map (within i) a ++ b) (none-told p k v h.0) (none-told_from p k (suc i) vs h.1)
