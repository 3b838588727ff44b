-- The ports, jobs and outputs of one step have their depths.
use Rattle.std.specs.Prelude.{◌≡◌, refl, ℕ, zero, suc, ◌+◌, List, [], ◌∷◌, ◌++◌, map, find, flat_map, Bool, true, false, Some, is_some, unwrap_or, if◌then◌else◌}
use Rattle.std.specs.List.{list_all, list_any, slice_get}
use Rattle.std.specs.Option.{option_map_or}
use Rattle.std.proofs.Common.{sym, ap, subst, inl, inr}
use Rattle.tv_lemmas.specs.Members.{Each, In}
use Rattle.tv_lemmas.proofs.Members.{in-flat}
use Rattle.tv_value.specs.Nested.{leaf, list, no_trees, tree, Place, nodes}
use Rattle.tv_value.specs.Values.{Name, JobName, Value, HasDepth}
use Rattle.tv_value.specs.Orders.{same_name, same_job, named}
use Rattle.tv_value.specs.Strategies.{Strategy}
use Rattle.tv_value.proofs.JobNameLemmas.{same_job_decides}
use Rattle.tv_flow.specs.Flows.{StepInput, Step, Flow}
use Rattle.tv_strategy.specs.Origins.{Origin}
use Rattle.tv_strategy.specs.Iterations.{Binding, job, passed, Iteration, Iterations, walk, iteration}
use Rattle.tv_strategy.specs.Levels.{HasLevels, IsJob}
use Rattle.tv_strategy.specs.Measures.{strategy_depth, DotsAgree, leaf_names}
use Rattle.tv_strategy.specs.Sources.{JobsStand, JobsStandFrom}
use Rattle.tv_strategy.proofs.AtDepth.{walk-levels, iteration-levels, output-depth}
use Rattle.tv_gate.specs.Outcomes.{Giving}
use Rattle.tv_model.specs.instance.Delivered.{Ported}
use Rattle.tv_model.specs.instance.Steps.{bound_values, declared_depths, port_iteration, port_mismatch, spot, strategy_of}
use Rattle.tv_model.specs.Agreeing.{FindThemselves, ActivitiesAgree, ActivitiesNest, NestsWithin}
use Rattle.tv_model.specs.RightDepths.{AreRight, HaveTheseDepths}
use Rattle.tv_model.specs.Instances.{node_jobs, job_on}
use Rattle.tv_model.specs.Lists.{rest_of}
use Rattle.tv_model.specs.Made.{Meaning, Opened, result_of, delivered_outputs}
use Rattle.tv_model.proofs.Tests.{true≠false}
use Rattle.tv_model.proofs.Fed.{either, each-flat_map}
use Rattle.tv_model.proofs.Sound.{AllStand, AllStandFrom, StandsAt, all-stand, nodes-stand}
use Rattle.tv_model.proofs.Formed.{nodes-in, IsNode}
use Rattle.tv_model.proofs.Kept.{job-at}
use Rattle.tv_model.proofs.Binds.{Binds, walk-binds, iteration-binds, bound-have}
use Rattle.tv_model.proofs.Results.{Delivers, IsFit, job-fit}

-- ---- what the ports take

abbrev pub declared_in : List (Name × StepInput) → Name → ℕ
declared_in is p = option_map_or (λ (i : StepInput). i.depth) (named p is) 0

pub declared-each : (all is : List (Name × StepInput)) → FindThemselves all is → Each (λ i. declared_in all i.0 ≡ i.1.depth) is
declared-each all [] h = tt
declared-each all (i ∷ is) h = (ap (λ o. option_map_or (λ (j : StepInput). j.depth) o 0) h.0, declared-each all is h.1)

module _ (f : StepInput → Ported) where
  abbrev pub Takes : Name × StepInput → Type 0
  Takes i = HasDepth (f i.1).value ((f i.1).mismatch + i.1.depth)

  abbrev pub taken_by : List (Name × StepInput) → List (Name × Ported)
  taken_by is = map (λ i. (i.0, f i.1)) is

  port-levels : (is : List (Name × StepInput)) → Each Takes is → (p : Name) → HasLevels (port_iteration (taken_by is) p) (port_mismatch (taken_by is) p)
  port-levels [] h p = refl
  port-levels (i ∷ is) h p = by (same_name p i.0) (port-levels is h.1 p)
    where
      by : (b : Bool) → HasLevels (port_iteration (taken_by is) p) (port_mismatch (taken_by is) p) → HasLevels (option_map_or (λ (d : Ported). walk p d.mismatch d.value) (if b then Some (f i.1) else named p (taken_by is)) (leaf [] (job []))) (option_map_or (λ (d : Ported). d.mismatch) (if b then Some (f i.1) else named p (taken_by is)) 0)
      by true k = walk-levels p (f i.1).value (f i.1).mismatch i.1.depth ((f i.1).mismatch + i.1.depth) refl h.0
      by false k = k

  port-binds : (D : Name → ℕ) (is : List (Name × StepInput)) → Each Takes is → (p : Name) → D p ≡ declared_in is p → is_some (named p is) ≡ true → Binds D (p ∷ []) (port_iteration (taken_by is) p)
  port-binds D [] h p e k = absurd (true≠false (sym k))
  port-binds D (i ∷ is) h p e k = by (same_name p i.0) e k (λ x y. port-binds D is h.1 p x y)
    where
      by : (b : Bool) → D p ≡ option_map_or (λ (j : StepInput). j.depth) (if b then Some i.1 else named p is) 0 → is_some (if b then Some i.1 else named p is) ≡ true → (D p ≡ declared_in is p → is_some (named p is) ≡ true → Binds D (p ∷ []) (port_iteration (taken_by is) p)) → Binds D (p ∷ []) (option_map_or (λ (d : Ported). walk p d.mismatch d.value) (if b then Some (f i.1) else named p (taken_by is)) (leaf [] (job [])))
      by true e k rec = walk-binds D p (f i.1).mismatch (f i.1).value ((f i.1).mismatch + i.1.depth) (ap (λ n. (f i.1).mismatch + n) (sym e)) h.0
      by false e k rec = rec e k

  module _ (is : List (Name × StepInput)) (takes : Each Takes is) (s : Strategy) (dots : DotsAgree (port_mismatch (taken_by is)) s) where
    pub all-levels : HasLevels (iteration (port_iteration (taken_by is)) s) (strategy_depth (port_mismatch (taken_by is)) s)
    all-levels = iteration-levels (port_iteration (taken_by is)) (port_mismatch (taken_by is)) (λ p. port-levels is takes p) s dots

    pub all-bind : list_all (λ p. is_some (named p is)) (leaf_names s) ≡ true → Binds (declared_in is) (leaf_names s) (iteration (port_iteration (taken_by is)) s)
    all-bind h =
        iteration-binds (declared_in is) (port_iteration (taken_by is)) (port_mismatch (taken_by is)) (λ p. port-levels is takes p) (λ p. is_some (named p is)) (λ p k. port-binds (declared_in is) is takes p refl k) s dots h

-- ---- the nodes of an iteration

module _ (K : Place → Iteration → Type 0) (J : Place → Type 0) (of_job : (q : Place) (r : List Origin) (b : Binding) → K q (leaf r (job b)) → J q) where
  mutual
    pub jobs-of_nodes : (t : Iteration) (q : Place) → AllStand K q t → JobsStand J q t
    jobs-of_nodes (leaf r (job b)) q h = of_job q r b h
    jobs-of_nodes (leaf r (passed m e)) q h = tt
    jobs-of_nodes (list r ts) q h = jobs-of_nodes_from ts q 0 h.1

    jobs-of_nodes_from : (ts : Iterations) (q : Place) (i : ℕ) → AllStandFrom K q i ts → JobsStandFrom J q i ts
    jobs-of_nodes_from no_trees q i h = tt
    jobs-of_nodes_from (tree t ts) q i h = (jobs-of_nodes t (q ++ i ∷ []) h.0, jobs-of_nodes_from ts q (suc i) h.1)

-- ---- the result at one output

-- ps is what is left of qs after the first k
abbrev pub IsRest : {A : Type 0} → ℕ → List A → List A → Type 0
IsRest zero ps qs = ps ≡ qs
IsRest (suc k) ps [] = ⊥
IsRest (suc k) ps (q ∷ qs) = IsRest k ps qs

rest-next : {A : Type 0} (k : ℕ) (p : A) (ps qs : List A) → IsRest k (p ∷ ps) qs → IsRest (suc k) ps qs
rest-next zero p ps [] h = cc
rest-next zero p ps (q ∷ qs) h = ap rest_of h
rest-next (suc k) p ps [] h = absurd h
rest-next (suc k) p ps (q ∷ qs) h = rest-next k p ps qs h

result-has : (k : ℕ) (p : Name × ℕ) (ps qs : List (Name × ℕ)) (vs : List Value) → IsRest k (p ∷ ps) qs → HaveTheseDepths (map (λ o. o.1) qs) vs → HasDepth (unwrap_or (slice_get vs k) (list tt no_trees)) p.1
result-has zero p ps [] vs e h = cc
result-has zero p ps (q ∷ qs) [] e h = absurd h
result-has zero p ps (q ∷ qs) (v ∷ vs) e h = let same : q ≡ p = cc in subst (λ (o : Name × ℕ). HasDepth v o.1) same h.0
result-has (suc k) p ps [] vs e h = absurd e
result-has (suc k) p ps (q ∷ qs) [] e h = absurd h
result-has (suc k) p ps (q ∷ qs) (v ∷ vs) e h = result-has k p ps qs vs e h.1

-- whatever is found, where one is there that passes
pub find-there : {A B : Type 0} (S : A → Type 0) (R : B → Type 0) (f : A → B) → ((x : A) → S x → R (f x)) → (p : A → Bool) (z : B) (xs : List A) → Each S xs → (x : A) → In x xs → p x ≡ true → R (option_map_or f (find p xs) z)
find-there S R f g p z [] h x i e = absurd i
find-there S R f g p z (y ∷ ys) h x (inl q) e =
    subst (λ b. R (option_map_or f (if b then Some y else find p ys) z)) (sym (subst (λ w. p w ≡ true) q e)) (g y h.0)
find-there S R f g p z (y ∷ ys) h x (inr i) e = either (λ o. R (option_map_or f o z)) (p y) (Some y) (find p ys) (g y h.0) (find-there S R f g p z ys h.1 x i e)

-- ---- the outputs, from jobs whose results have the declared depths

abbrev pub Gives : Step → Opened → Type 0
Gives s o = HaveTheseDepths (declared_depths s) o.job.result

-- a job of that name is among these
abbrev pub IsThere : List Opened → JobName → Type 0
IsThere js n = (o : Opened) × In o js × (o.job.name ≡ n)

module _ (I : JobName) (n : Name) (s : Step) (js : List Opened) (give : Each (Gives s) js) (it : Iteration) (there : (q : Place) (r : List Origin) (b : Binding) → In (q, leaf r (job b)) (nodes it) → IsThere js (spot I n q)) (levels : ℕ) (lev : HasLevels it levels) where
  result-right : (k : ℕ) (p : Name × ℕ) (ps : List (Name × ℕ)) → IsRest k (p ∷ ps) s.outputs → (q : Place) → IsThere js (spot I n q) → HasDepth (result_of js k (spot I n q)) p.1
  result-right k p ps e q h =
      find-there (Gives s) (λ v. HasDepth v p.1) (λ (o : Opened). unwrap_or (slice_get o.job.result k) (list tt no_trees)) (λ o w. result-has k p ps s.outputs o.job.result e w) (λ (o : Opened). same_job (spot I n q) o.job.name) (list tt no_trees) js give h.0 h.1 ((same_job_decides (spot I n q) h.0.job.name).1 (sym h.2))

  pub outputs-right : (k : ℕ) (ps : List (Name × ℕ)) → IsRest k ps s.outputs → AreRight (delivered_outputs I n js levels it k ps)
  outputs-right k [] e = tt
  outputs-right k (p ∷ ps) e = (
    output-depth (λ q. IsThere js (spot I n q)) (spot I n) (λ q. result_of js k (spot I n q)) p.1 (λ q h. result-right k p ps e q h) it [] levels (levels + p.1) refl lev
        (jobs-of_nodes (IsNode (nodes it)) (λ q. IsThere js (spot I n q)) there it [] (nodes-in (nodes it) it [] (λ x h. h))),
    outputs-right (suc k) ps (rest-next k p ps s.outputs e),
  )

-- ---- the jobs of a step

module _ (gives : Giving) (inside : Name → JobName → List (Name × Value) → Meaning) (I : JobName) (flows : List (Name × Flow)) (P : Meaning → Type 0) (k : ℕ) (inside_is : Delivers flows P inside k) (n : Name) (s : Step) (before : List Origin) where
  abbrev pub Fit : Opened → Type 0
  Fit o = IsFit gives inside I flows P k inside_is s n o

  module _ (once : FindThemselves s.inputs s.inputs) (bound : list_all (λ i. list_any (same_name i.0) (leaf_names (strategy_of s))) s.inputs ≡ true) (agree : ActivitiesAgree flows s s.activities) (nest : ActivitiesNest (NestsWithin flows k) s.activities) where
    node-fit : (it : Iteration) → Binds (declared_in s.inputs) (leaf_names (strategy_of s)) it → (x : Place × Iteration) → StandsAt it x.0 x.1 → Each Fit (node_jobs gives inside I n s before x)
    node-fit it h (q, leaf r (job b)) e =
        let binds = h q b (subst (λ o. IsJob o b) (sym e) refl) in
        let have = bound-have (declared_in s.inputs) (leaf_names (strategy_of s)) b binds s.inputs (declared-each s.inputs s.inputs once) bound in
        (job-fit gives inside I flows P k inside_is n s (r ++ before) q (bound_values s b) once have agree nest, tt)
    node-fit it h (q, leaf r (passed m e)) w = tt
    node-fit it h (q, list r ts) w = tt

    pub all-fit : (it : Iteration) → Binds (declared_in s.inputs) (leaf_names (strategy_of s)) it → Each Fit (flat_map (node_jobs gives inside I n s before) (nodes it))
    all-fit it h =
        each-flat_map (λ x. StandsAt it x.0 x.1) Fit (node_jobs gives inside I n s before) (node-fit it h) (nodes it) (nodes-stand (StandsAt it) it [] (all-stand it it [] refl))

  pub all-there : (it : Iteration) (q : Place) (r : List Origin) (b : Binding) → In (q, leaf r (job b)) (nodes it) → IsThere (flat_map (node_jobs gives inside I n s before) (nodes it)) (spot I n q)
  all-there it q r b h = (
    job_on gives inside I n s (r ++ before) q (bound_values s b),
    in-flat (node_jobs gives inside I n s before) (q, leaf r (job b)) (job_on gives inside I n s (r ++ before) q (bound_values s b)) (nodes it) h (inl refl),
    (job-at gives inside I (λ m i. Unit {0}) (λ f i vs. tt) n s (r ++ before) q (bound_values s b)).name,
  )
