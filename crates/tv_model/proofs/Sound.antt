-- The nodes of an iteration at their places, what the outputs of a step have from them, and the names of steps and nodes.
use Rattle.std.specs.Prelude.{◌≡◌, refl, ℕ, suc, pred, ◌+◌, List, [], ◌∷◌, ◌++◌, map, false, Option, Some, None, option_and_then}
use Rattle.std.proofs.Common.{arith, sym, ap, ◌∙◌}
pub use Rattle.std.proofs.lemmas.List.{append_cancel_left as cancel}
use Rattle.std.proofs.lemmas.Option.{same_Some}
use Rattle.tv_lemmas.specs.Members.{Each}
use Rattle.tv_value.specs.Nested.{leaf, list, no_trees, tree, Place, note, at, item_at, children, nodes_below, nodes_from}
use Rattle.tv_value.specs.Values.{Name, JobName, ErrorDoc, Value}
use Rattle.tv_flow.specs.Flows.{Step}
use Rattle.tv_strategy.specs.Origins.{Mark, Origin, at_start, from_job, from_level}
use Rattle.tv_strategy.specs.Iterations.{Binding, End, job, passed, Iteration, Iterations}
use Rattle.tv_strategy.specs.Outputs.{output_below, outputs_from, end_output}
use Rattle.tv_strategy.specs.Sources.{AtNodes, AtAllNodes, SourcesHave, AllSourcesHave}
use Rattle.tv_strategy.proofs.Sources.{each-append, traced-have}
use Rattle.tv_model.specs.instance.Delivered.{StepMeaning}
use Rattle.tv_model.specs.instance.Ranks.{is_among}
use Rattle.tv_model.specs.instance.Steps.{spot}
use Rattle.tv_model.specs.Levels.{Level, level_at}
use Rattle.tv_model.specs.Made.{Made}

-- ---- every node of an iteration stands at its place

-- K holds of each place and what stands there
module _ (K : Place → Iteration → Type 0) where
  abbrev mutual
    pub AllStand : Place → Iteration → Type 0
    AllStand q (leaf s e) = K q (leaf s e)
    AllStand q (list s ts) = K q (list s ts) × AllStandFrom q 0 ts

    pub AllStandFrom : Place → ℕ → Iterations → Type 0
    AllStandFrom q i no_trees = Unit {0}
    AllStandFrom q i (tree t ts) = AllStand (q ++ i ∷ []) t × AllStandFrom q (suc i) ts

  mutual
    pub nodes-stand : (t : Iteration) (q : Place) → AllStand q t → Each (λ x. K x.0 x.1) (nodes_below q t)
    nodes-stand (leaf s e) q h = (h, tt)
    nodes-stand (list s ts) q h = (h.0, nodes_from-stand ts q 0 h.1)

    pub nodes_from-stand : (ts : Iterations) (q : Place) (i : ℕ) → AllStandFrom q i ts → Each (λ x. K x.0 x.1) (nodes_from q i ts)
    nodes_from-stand no_trees q i h = tt
    nodes_from-stand (tree t ts) q i h =
        each-append (λ x. K x.0 x.1) (nodes_below (q ++ i ∷ []) t) (nodes_from q (suc i) ts) (nodes-stand t (q ++ i ∷ []) h.0) (nodes_from-stand ts q (suc i) h.1)

at-below : (t : Iteration) (q : Place) (s : List Origin) (ts : Iterations) (i : ℕ) → at t q ≡ Some (list s ts) → at t (q ++ i ∷ []) ≡ item_at ts i
at-below t [] s ts i h = itself (item_at (children t) i) ∙ ap (λ u. item_at (children u) i) (same_Some t (list s ts) h)
  where
    itself : (o : Option Iteration) → option_and_then (λ u. Some u) o ≡ o
    itself None = refl
    itself (Some u) = refl
at-below t (j ∷ q) s ts i h = inner (item_at (children t) j) h (λ u k. at-below u q s ts i k)
  where
    inner : (o : Option Iteration) → option_and_then (λ u. at u q) o ≡ Some (list s ts) → ((u : Iteration) → at u q ≡ Some (list s ts) → at u (q ++ i ∷ []) ≡ item_at ts i) → option_and_then (λ u. at u (q ++ i ∷ [])) o ≡ item_at ts i
    inner None k rec = cc
    inner (Some u) k rec = rec u k

module _ (whole : Iteration) where
  abbrev pub StandsAt : Place → Iteration → Type 0
  StandsAt q u = at whole q ≡ Some u

  mutual
    pub all-stand : (t : Iteration) (q : Place) → StandsAt q t → AllStand StandsAt q t
    all-stand (leaf s e) q h = h
    all-stand (list s ts) q h = (h, all_from-stand ts ts q 0 s h (λ k. ap (item_at ts) (omega arith)))

    pub all_from-stand : (us ts : Iterations) (q : Place) (i : ℕ) (s : List Origin) → StandsAt q (list s ts) → ((k : ℕ) → item_at ts (i + k) ≡ item_at us k) → AllStandFrom StandsAt q i us
    all_from-stand no_trees ts q i s h w = tt
    all_from-stand (tree u us) ts q i s h w =
        (all-stand u (q ++ i ∷ []) (at-below whole q s ts i h ∙ ap (item_at ts) (omega arith) ∙ w 0), all_from-stand us ts q (suc i) s h (λ k. ap (item_at ts) (omega arith) ∙ w (suc k)))

-- ---- the output, node by node

-- Q holds of the origin that each node of the iteration gives
module _ (Q : Origin → Type 0) (K : Place → Iteration → Type 0) (named : Place → JobName) (made : Place → Value) (declared : ℕ)
    (of_job : (q : Place) (s : List Origin) (b : Binding) → K q (leaf s (job b)) → Q (from_job (named q)))
    (of_passed : (q : Place) (s : List Origin) (m : Option Mark) (e : ErrorDoc) → K q (leaf s (passed m e)) → Q (from_level (named q) m s))
    (of_list : (q : Place) (s : List Origin) (ts : Iterations) → K q (list s ts) → Q (from_level (named q) None s)) where
  end-gives : (q : Place) (d : ℕ) (s : List Origin) (e : End) → K q (leaf s e) → AtNodes Q (end_output named made declared q d s e)
  end-gives q d s (job b) h = traced-have Q (from_job (named q)) (of_job q s b h) (made q)
  end-gives q d s (passed m e) h = of_passed q s m e h

  mutual
    pub output-gives : (t : Iteration) (q : Place) (d : ℕ) → AllStand K q t → AtNodes Q (output_below named made declared q d t)
    output-gives (leaf s e) q d h = end-gives q d s e h
    output-gives (list s ts) q d h = (of_list q s ts h.0, outputs-give ts q (pred d) 0 h.1)

    pub outputs-give : (ts : Iterations) (q : Place) (d i : ℕ) → AllStandFrom K q i ts → AtAllNodes Q (outputs_from named made declared q d i ts)
    outputs-give no_trees q d i h = tt
    outputs-give (tree t ts) q d i h = (output-gives t (q ++ i ∷ []) d h.0, outputs-give ts q d (suc i) h.1)

-- ---- names

abbrev pub first_of : (Name × Place) → JobName → Name × Place
first_of d [] = d
first_of d (k ∷ n) = k

-- a name in an instance has one step and one place
pub spot-step : (instance : JobName) (s t : Name) (q r : Place) → spot instance s q ≡ spot instance t r → (s ≡ t) × (q ≡ r)
spot-step instance s t q r e =
    let f = cancel instance ((s, q) ∷ []) ((t, r) ∷ []) e in
    (ap (λ n. (first_of (s, q) n).0) f, ap (λ n. (first_of (s, q) n).1) f)

-- ---- the steps of an instance

abbrev pub step_list : List Made → List StepMeaning
step_list ms = map (λ m. m.step) ms

abbrev pub step_names : List Made → List Name
step_names ms = map (λ m. m.step.step) ms

module _ (instance : JobName) where
  -- each step is of this instance, and has a name of its own
  abbrev pub AreDistinct : List Made → Type 0
  AreDistinct [] = Unit {0}
  AreDistinct (m ∷ ms) = (m.step.instance ≡ instance) × (is_among (step_names ms) m.step.step ≡ false) × AreDistinct ms

  -- a level's name and sources are its node's
  pub level-node : (s : StepMeaning) (x : Place × Iteration) (l : Level) → level_at s x ≡ Some l → (l.name ≡ spot s.instance s.step x.0) × (l.sources ≡ note x.1)
  level-node s (q, leaf r (job b)) l h = cc
  level-node s (q, leaf r (passed m e)) l h = let w = sym (same_Some _ l h) in (ap (λ v. v.name) w, ap (λ v. v.sources) w)
  level-node s (q, list r ts) l h = let w = sym (same_Some _ l h) in (ap (λ v. v.name) w, ap (λ v. v.sources) w)

mutual
  pub nodes-sourced : (P : Origin → Type 0) (t : Iteration) (q : Place) → SourcesHave P t → Each (λ x. Each P (note x.1)) (nodes_below q t)
  nodes-sourced P (leaf s e) q h = (h.0, tt)
  nodes-sourced P (list s ts) q h = (h.0, nodes_from-sourced P ts q 0 h.1)

  nodes_from-sourced : (P : Origin → Type 0) (ts : Iterations) (q : Place) (i : ℕ) → AllSourcesHave P ts → Each (λ x. Each P (note x.1)) (nodes_from q i ts)
  nodes_from-sourced P no_trees q i h = tt
  nodes_from-sourced P (tree t ts) q i h =
      each-append (λ x. Each P (note x.1)) (nodes_below (q ++ i ∷ []) t) (nodes_from q (suc i) ts) (nodes-sourced P t (q ++ i ∷ []) h.0) (nodes_from-sourced P ts q (suc i) h.1)

-- names that are not among these, nor among one another
abbrev pub FreshNames : List Name → List (Name × Step) → Type 0
FreshNames ns [] = Unit {0}
FreshNames ns (s ∷ ss) = (is_among ns s.0 ≡ false) × FreshNames (s.0 ∷ ns) ss

-- a node that is known from the start and needs nothing
abbrev pub IsFree : Origin → Type 0
IsFree o = (o.known ≡ at_start) × (o.needs ≡ [])
