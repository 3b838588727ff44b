-- The marks of an instance: each is of an input of the flow, or of a job of a step that was taken earlier.
use Rattle.std.specs.Prelude.{◌≡◌, refl, ℕ, zero, suc, List, [], ◌∷◌, ◌++◌, map, Option, Some, None, unwrap_or, filter_map}
use Rattle.std.specs.List.{list_any, cons_option}
use Rattle.std.proofs.Common.{sym, subst, inl, inr}
use Rattle.tv_lemmas.specs.Members.{Each, In}
use Rattle.tv_lemmas.proofs.Members.{each_in, in-flat, in-left, in-right, in_each, of-flat}
use Rattle.tv_value.specs.Nested.{leaf, list, Trees, no_trees, tree, Place, map_trees, nodes, nodes_below, nodes_from}
use Rattle.tv_value.specs.Values.{Name, JobName, Scalar, text, fault, Value, holds_fault}
use Rattle.tv_value.specs.Strategies.{Strategy, port, cross, dot, prefix, Strategies, no_strategies, strategy}
use Rattle.tv_value.specs.Orders.{named, same_name}
use Rattle.tv_flow.specs.Flows.{Step, StepInput, Flow}
use Rattle.tv_gate.specs.Outcomes.{Giving}
use Rattle.tv_strategy.specs.Origins.{Mark, given, made, Origin, Traced, plain, from_job, from_level, input_value, input_values}
use Rattle.tv_strategy.specs.Iterations.{Binding, End, job, passed, Iteration, Iterations, stopped, walk, walk_each, end_with, added, crossed, each_crossed, crossed_end, paired, each_paired, paired_end, iteration, cross_of, dot_of}
use Rattle.tv_strategy.specs.Measures.{strategy_depth}
use Rattle.tv_strategy.specs.Sources.{AtNodes, AtAllNodes, SourcesHave, AllSourcesHave}
use Rattle.tv_strategy.proofs.Sources.{each-append}
use Rattle.tv_strategy.proofs.Each.{each-all, each-weaken}
use Rattle.tv_dispatch.specs.Jobs.{Fate, right, opens, wrong, tries, take_tries}
use Rattle.tv_model.specs.instance.Delivered.{Delivered, wrapped}
use Rattle.tv_model.specs.instance.Steps.{strategy_of, port_iteration, port_mismatch, bound_values, declared_depths, spot, node_origin}
use Rattle.tv_model.specs.Jobs.{Job}
use Rattle.tv_model.specs.Made.{Meaning, Opened, Made, endings, result_of, delivered_outputs}
use Rattle.tv_model.specs.Instances.{with_fate, bounced_job, tried_job, job_on, node_jobs, step_made, steps_made}
use Rattle.tv_model.specs.Lineages.{used, all_used, mark_or}
use Rattle.tv_model.specs.Earlier.{job_list}
use Rattle.tv_model.specs.Instances.{given_of}
use Rattle.tv_model.proofs.Fed.{either, named_map_or, each-of_map, step_ports, step_iteration, StepHas, step_iteration-has, endings-have, feed-has}
use Rattle.tv_model.proofs.Earlier.{at_nodes-weaken}
use Rattle.tv_model.proofs.Sound.{output-gives}
use Rattle.tv_model.proofs.Formed.{IsNode, nodes-in}

-- M holds of the mark, where there is one
abbrev pub OfMark : (Mark → Type 0) → Option Mark → Type 0
OfMark M None = Unit {0}
OfMark M (Some m) = M m

abbrev pub HasMark : (Mark → Type 0) → Origin → Type 0
HasMark M o = OfMark M o.mark

of_mark-weaken : (M N : Mark → Type 0) → ((m : Mark) → M m → N m) → (o : Option Mark) → OfMark M o → OfMark N o
of_mark-weaken M N f None h = tt
of_mark-weaken M N f (Some m) h = f m h

-- ---- what a value used

module _ (M : Mark → Type 0) where
  mark_or-has : (o : Option Mark) (ms : List Mark) → OfMark M o → Each M ms → Each M (mark_or o ms)
  mark_or-has None ms h k = k
  mark_or-has (Some m) ms h k = (h, tt)

  mutual
    pub used-have : (v : Traced) → AtNodes (HasMark M) v → Each M (used v)
    used-have (leaf o a) h = mark_or-has o.mark [] h tt
    used-have (list o ts) h = mark_or-has o.mark (all_used ts) h.0 (all_used-have ts h.1)

    pub all_used-have : (ts : Trees Origin Scalar) → AtAllNodes (HasMark M) ts → Each M (all_used ts)
    all_used-have no_trees h = tt
    all_used-have (tree t ts) h = each-append M (used t) (all_used ts) (used-have t h.0) (all_used-have ts h.1)

  -- ---- the marks of passed faults

  abbrev EndPasses : End → Type 0
  EndPasses (job b) = Unit {0}
  EndPasses (passed m e) = OfMark M m

  abbrev mutual
    Passes : Iteration → Type 0
    Passes (leaf s e) = EndPasses e
    Passes (list s ts) = AllPass ts

    AllPass : Iterations → Type 0
    AllPass no_trees = Unit {0}
    AllPass (tree t ts) = Passes t × AllPass ts

  stopped-passes : (p : Name) (o : Origin) (a : Scalar) → HasMark M o → EndPasses (stopped p o a)
  stopped-passes p o (text t) h = tt
  stopped-passes p o (fault e) h = h

  mutual
    walk-passes : (p : Name) (k : ℕ) (v : Traced) → AtNodes (HasMark M) v → Passes (walk p k v)
    walk-passes p zero (leaf o a) h = tt
    walk-passes p zero (list o vs) h = tt
    walk-passes p (suc k) (leaf o a) h = stopped-passes p o a h
    walk-passes p (suc k) (list o vs) h = walk_each-pass p k vs h.1

    walk_each-pass : (p : Name) (k : ℕ) (vs : Trees Origin Scalar) → AtAllNodes (HasMark M) vs → AllPass (walk_each p k vs)
    walk_each-pass p k no_trees h = tt
    walk_each-pass p k (tree v vs) h = (walk-passes p k v h.0, walk_each-pass p k vs h.1)

  end_with-passes : (b : Binding) (e : End) → EndPasses e → EndPasses (end_with b e)
  end_with-passes b (job c) h = tt
  end_with-passes b (passed m e) h = h

  mutual
    added-passes : (s : List Origin) (b : Binding) (t : Iteration) → Passes t → Passes (added s b t)
    added-passes s b (leaf r e) h = end_with-passes b e h
    added-passes s b (list r ts) h = all_added-pass s b ts h

    all_added-pass : (s : List Origin) (b : Binding) (ts : Iterations) → AllPass ts → AllPass (map_trees (λ r. s ++ r) (end_with b) ts)
    all_added-pass s b no_trees h = tt
    all_added-pass s b (tree t ts) h = (added-passes s b t h.0, all_added-pass s b ts h.1)

  crossed_end-passes : (s : List Origin) (e : End) (u : Iteration) → EndPasses e → Passes u → Passes (crossed_end s e u)
  crossed_end-passes s (job b) u h k = added-passes s b u k
  crossed_end-passes s (passed m e) u h k = h

  mutual
    crossed-passes : (t u : Iteration) → Passes t → Passes u → Passes (crossed t u)
    crossed-passes (leaf s e) u h k = crossed_end-passes s e u h k
    crossed-passes (list s ts) u h k = each_crossed-pass ts u h k

    each_crossed-pass : (ts : Iterations) (u : Iteration) → AllPass ts → Passes u → AllPass (each_crossed ts u)
    each_crossed-pass no_trees u h k = tt
    each_crossed-pass (tree t ts) u h k = (crossed-passes t u h.0 k, each_crossed-pass ts u h.1 k)

  paired_end-passes : (s : List Origin) (e : End) (u : Iteration) → EndPasses e → Passes u → Passes (paired_end s e u)
  paired_end-passes s (job b) u h k = added-passes s b u k
  paired_end-passes s (passed m e) u h k = h

  mutual
    paired-passes : (t u : Iteration) → Passes t → Passes u → Passes (paired t u)
    paired-passes (leaf s e) u h k = paired_end-passes s e u h k
    paired-passes (list s ts) (leaf r e) h k = k
    paired-passes (list s ts) (list r us) h k = each_paired-pass ts us h k

    each_paired-pass : (ts us : Iterations) → AllPass ts → AllPass us → AllPass (each_paired ts us)
    each_paired-pass no_trees us h k = tt
    each_paired-pass (tree t ts) no_trees h k = tt
    each_paired-pass (tree t ts) (tree u us) h k = (paired-passes t u h.0 k.0, each_paired-pass ts us h.1 k.1)

  module _ (ports : Name → Iteration) (fed : (p : Name) → Passes (ports p)) where
    mutual
      iteration-passes : (s : Strategy) → Passes (iteration ports s)
      iteration-passes (port p) = fed p
      iteration-passes (cross cs) = cross_of-passes cs
      iteration-passes (dot cs) = dot_of-passes cs
      iteration-passes (prefix l r) = paired-passes (iteration ports l) (iteration ports r) (iteration-passes l) (iteration-passes r)

      cross_of-passes : (cs : Strategies) → Passes (cross_of ports cs)
      cross_of-passes no_strategies = tt
      cross_of-passes (strategy c cs) = crossed-passes (iteration ports c) (cross_of ports cs) (iteration-passes c) (cross_of-passes cs)

      dot_of-passes : (cs : Strategies) → Passes (dot_of ports cs)
      dot_of-passes no_strategies = tt
      dot_of-passes (strategy c no_strategies) = iteration-passes c
      dot_of-passes (strategy c (strategy d ds)) = paired-passes (iteration ports c) (dot_of ports (strategy d ds)) (iteration-passes c) (dot_of-passes (strategy d ds))

  -- ---- node by node

  abbrev NodePasses : Place × Iteration → Type 0
  NodePasses (q, leaf s e) = EndPasses e
  NodePasses (q, list s ts) = Unit {0}

  mutual
    nodes-pass : (t : Iteration) (q : Place) → Passes t → Each NodePasses (nodes_below q t)
    nodes-pass (leaf s e) q h = (h, tt)
    nodes-pass (list s ts) q h = (tt, nodes_from-pass ts q 0 h)

    nodes_from-pass : (ts : Iterations) (q : Place) (i : ℕ) → AllPass ts → Each NodePasses (nodes_from q i ts)
    nodes_from-pass no_trees q i h = tt
    nodes_from-pass (tree t ts) q i h = each-append NodePasses (nodes_below (q ++ i ∷ []) t) (nodes_from q (suc i) ts) (nodes-pass t (q ++ i ∷ []) h.0) (nodes_from-pass ts q (suc i) h.1)

  -- ---- what a job binds

  bound-of : (p : Name) (b : Binding) → Each (λ r. AtNodes (HasMark M) r.1) b → (o : Option Traced) → named p b ≡ o → (vs : List Traced) → Each (AtNodes (HasMark M)) vs → Each (AtNodes (HasMark M)) (cons_option o vs)
  bound-of p b h None e vs k = k
  bound-of p b h (Some v) e vs k = (subst Holds e (holds b h), k)
    where
      Holds : Option Traced → Type 0
      Holds None = Unit {0}
      Holds (Some v) = AtNodes (HasMark M) v

      holds : (b : Binding) → Each (λ r. AtNodes (HasMark M) r.1) b → Holds (named p b)
      holds [] h = tt
      holds (r ∷ b) h = either Holds (same_name p r.0) (Some r.1) (named p b) h.0 (holds b h.1)

  bound-have : (b : Binding) → Each (λ r. AtNodes (HasMark M) r.1) b → (is : List (Name × StepInput)) → Each (AtNodes (HasMark M)) (filter_map (λ i. named i.0 b) is)
  bound-have b h [] = tt
  bound-have b h (i ∷ is) = bound-of i.0 b h (named i.0 b) refl (filter_map (λ i. named i.0 b) is) (bound-have b h is)

-- ---- the steps of an instance

-- a mark of an input of the flow, or of a job of these steps
abbrev pub IsSoFar : List Made → Mark → Type 0
IsSoFar ms (given x q) = Unit {0}
IsSoFar ms (made n) = (o : Opened) × In o (job_list ms) × (o.job.name ≡ n)

-- each job uses only such marks, of the steps before its own
abbrev pub UseEarlier : List Made → Type 0
UseEarlier [] = Unit {0}
UseEarlier (m ∷ ms) = ((o : Opened) → In o m.jobs → Each (AtNodes (HasMark (IsSoFar ms))) o.job.inputs) × UseEarlier ms

abbrev pub AreMarked : List Made → Type 0
AreMarked ms = Each (StepHas (HasMark (IsSoFar ms))) ms

so_far-more : (m : Made) (ms : List Made) (k : Mark) → IsSoFar ms k → IsSoFar (m ∷ ms) k
so_far-more m ms (given x q) h = tt
so_far-more m ms (made n) h = (h.0, in-right h.0 m.jobs (job_list ms) h.1, h.2)

module _ (gives : Giving) (inside : Name → JobName → List (Name × Value) → Meaning) (I : JobName) (given' : List (Name × Delivered))
    (given_marked : (M : Mark → Type 0) → ((x : Name) (q : Place) → M (given x q)) → Each (λ d. AtNodes (HasMark M) d.1.value) given') where
  fate-inputs : (s : Step) (j : Job) (f : Fate) → (with_fate inside s j f).job.inputs ≡ j.inputs
  fate-inputs s j (right vs) = refl
  fate-inputs s j (wrong why) = refl
  fate-inputs s j (opens f) = refl

  fate-name : (s : Step) (j : Job) (f : Fate) → (with_fate inside s j f).job.name ≡ j.name
  fate-name s j (right vs) = refl
  fate-name s j (wrong why) = refl
  fate-name s j (opens f) = refl

  job-kept : (n : Name) (s : Step) (w : List Origin) (q : Place) (vs : List Traced) → ((job_on gives inside I n s w q vs).job.inputs ≡ vs) × ((job_on gives inside I n s w q vs).job.name ≡ spot I n q)
  job-kept n s w q vs =
      let j = bounced_job I n s w q vs in
      let t = take_tries gives [] (tries (map plain j.inputs) (declared_depths s) s.retries 0 s.activities) in
      either (λ (o : Opened). (o.job.inputs ≡ vs) × (o.job.name ≡ spot I n q)) (list_any (λ v. holds_fault v) vs) (record { job = j; inside = None }) (tried_job gives inside s j) (refl, refl)
      (fate-inputs s (record j { asks = t.asks }) t.fate, fate-name s (record j { asks = t.asks }) t.fate)

  module _ (ms : List Made) (a : AreMarked ms) (n : Name) (s : Step) where
    abbrev P : Origin → Type 0
    P = HasMark (IsSoFar ms)

    abbrev new : Made
    new = step_made gives inside I given' ms (n, s)

    abbrev Q : Origin → Type 0
    Q = HasMark (IsSoFar (new ∷ ms))

    abbrev it : Iteration
    it = step_iteration given' ms s

    abbrev before : List Origin
    before = endings ms s.after

    given-have : Each (λ d. AtNodes P d.1.value) given'
    given-have = given_marked (IsSoFar ms) (λ x q. tt)

    it-has : SourcesHave P it
    it-has = step_iteration-has P tt given' given-have ms a s

    ports-have : Each (λ d. AtNodes P d.1.value) (step_ports given' ms s)
    ports-have =
        each-of_map (λ i. Unit {0}) (λ d. AtNodes P d.1.value) _ (λ i _. wrapped-has _ _ (feed-has P tt given' given-have ms a i.1.from)) s.inputs (each-all (λ i. Unit {0}) (λ i. tt) s.inputs)
      where
        wrapped-has : (k : ℕ) (v : Traced) → AtNodes P v → AtNodes P (wrapped k v)
        wrapped-has zero v h = h
        wrapped-has (suc k) v h = (tt, (wrapped-has k v h, tt))

    it-passes : Passes (IsSoFar ms) it
    it-passes =
        iteration-passes (IsSoFar ms) (port_iteration (step_ports given' ms s)) (λ p. named_map_or (λ d. AtNodes P d.value) (Passes (IsSoFar ms)) (λ d. walk p d.mismatch d.value) (λ d h. walk-passes (IsSoFar ms) p d.mismatch d.value h) p (step_ports given' ms s) (leaf [] (job [])) ports-have tt) (strategy_of s)

    more : (o : Origin) → P o → Q o
    more o h = of_mark-weaken (IsSoFar ms) (IsSoFar (new ∷ ms)) (so_far-more new ms) o.mark h

    job-has : (q : Place) (r : List Origin) (b : Binding) → In (q, leaf r (job b)) (nodes it) → Q (from_job (spot I n q))
    job-has q r b h =
        let o = job_on gives inside I n s (r ++ before) q (bound_values s b) in
        (o, in-left o new.jobs (job_list ms) (in-flat (node_jobs gives inside I n s before) (q, leaf r (job b)) o (nodes it) h (inl refl)), (job-kept n s (r ++ before) q (bound_values s b)).1)

    passed-has : (q : Place) (r : List Origin) (m : Option Mark) (e : _) → In (q, leaf r (passed m e)) (nodes it) → Q (from_level (spot I n q) m r)
    passed-has q r m e h = of_mark-weaken (IsSoFar ms) (IsSoFar (new ∷ ms)) (so_far-more new ms) m (each_in (NodePasses (IsSoFar ms)) (nodes it) (nodes-pass (IsSoFar ms) it [] it-passes) (q, leaf r (passed m e)) h)

    outputs-have : (js : List Opened) (depth i : ℕ) (ps : List (Name × ℕ)) → Each (λ d. AtNodes Q d.1.value) (delivered_outputs I n js depth it i ps)
    outputs-have js depth i [] = tt
    outputs-have js depth i (p ∷ ps) =
        (output-gives Q (IsNode (nodes it)) (spot I n) (λ q. result_of js i (spot I n q)) p.1 job-has passed-has (λ q r ts h. tt) it [] depth (nodes-in (nodes it) it [] (λ x h. h)), outputs-have js depth (suc i) ps)

    node-has : (x : Place × Iteration) → In x (nodes it) → Q (node_origin I n x)
    node-has (q, leaf r (job b)) h = job-has q r b h
    node-has (q, leaf r (passed m e)) h = passed-has q r m e h
    node-has (q, list r ts) h = tt

    ends-have : Each Q (map (node_origin I n) (nodes it) ++ before)
    ends-have =
        each-append Q (map (node_origin I n) (nodes it)) before (each-of_map (λ x. In x (nodes it)) Q (node_origin I n) node-has (nodes it) (in_each (λ x. In x (nodes it)) (nodes it) (λ x h. h)))
        (each-weaken P Q more before (endings-have P tt given' given-have ms a s.after))

    old-has : (m : Made) → StepHas P m → StepHas Q m
    old-has m h = (each-weaken (λ d. AtNodes P d.1.value) (λ d. AtNodes Q d.1.value) (λ d w. at_nodes-weaken P Q more d.1.value w) m.step.outputs h.0, each-weaken P Q more m.step.ending h.1)

    marked-with : AreMarked (new ∷ ms)
    marked-with = ((outputs-have new.jobs (strategy_depth (port_mismatch (step_ports given' ms s)) (strategy_of s)) 0 s.outputs, ends-have), each-weaken (StepHas P) (StepHas Q) old-has ms a)

    -- ---- what the step's jobs use

    node-uses : (x : Place × Iteration) → SourcesHave P x.1 → (o : Opened) → In o (node_jobs gives inside I n s before x) → Each (AtNodes P) o.job.inputs
    node-uses (q, leaf r (job b)) h o (inl e) =
        subst (λ (p : Opened). Each (AtNodes P) p.job.inputs) (sym e) (subst (λ vs. Each (AtNodes P) vs) (sym (job-kept n s (r ++ before) q (bound_values s b)).0) (bound-have (IsSoFar ms) b h.1 s.inputs))
    node-uses (q, leaf r (job b)) h o (inr k) = absurd k
    node-uses (q, leaf r (passed m e)) h o k = absurd k
    node-uses (q, list r ts) h o k = absurd k

    mutual
      nodes-have : (t : Iteration) (q : Place) → SourcesHave P t → Each (λ x. SourcesHave P x.1) (nodes_below q t)
      nodes-have (leaf r e) q h = (h, tt)
      nodes-have (list r ts) q h = (h, nodes_from-have ts q 0 h.1)

      nodes_from-have : (ts : Iterations) (q : Place) (i : ℕ) → AllSourcesHave P ts → Each (λ x. SourcesHave P x.1) (nodes_from q i ts)
      nodes_from-have no_trees q i h = tt
      nodes_from-have (tree t ts) q i h = each-append (λ x. SourcesHave P x.1) (nodes_below (q ++ i ∷ []) t) (nodes_from q (suc i) ts) (nodes-have t (q ++ i ∷ []) h.0) (nodes_from-have ts q (suc i) h.1)

    jobs-use : (o : Opened) → In o new.jobs → Each (AtNodes P) o.job.inputs
    jobs-use o h =
        let x = of-flat (node_jobs gives inside I n s before) o (nodes it) h in
        node-uses x.0 (each_in (λ x. SourcesHave P x.1) (nodes it) (nodes-have it [] it-has) x.0 x.1) o x.2

  pub steps-marked : (ms : List Made) → AreMarked ms → UseEarlier ms → (steps : List (Name × Step)) → AreMarked (steps_made gives inside I given' ms steps) × UseEarlier (steps_made gives inside I given' ms steps)
  steps-marked ms a u [] = (a, u)
  steps-marked ms a u ((n, s) ∷ ss) = steps-marked (step_made gives inside I given' ms (n, s) ∷ ms) (marked-with ms a n s) (jobs-use ms a n s, u) ss

-- ---- inputs

mutual
  input-marked : (M : Mark → Type 0) → ((x : Name) (q : Place) → M (given x q)) → (x : Name) (q : Place) (v : Value) → AtNodes (HasMark M) (input_value x q v)
  input-marked M f x q (leaf n a) = f x q
  input-marked M f x q (list n ts) = (f x q, inputs-marked M f x q 0 ts)

  inputs-marked : (M : Mark → Type 0) → ((x : Name) (q : Place) → M (given x q)) → (x : Name) (q : Place) (i : ℕ) (vs : Trees (Unit {0}) Scalar) → AtAllNodes (HasMark M) (input_values x q i vs)
  inputs-marked M f x q i no_trees = tt
  inputs-marked M f x q i (tree v vs) = (input-marked M f x (q ++ i ∷ []) v, inputs-marked M f x q (suc i) vs)

pub given-marked : (flow : Flow) (vs : List (Name × Value)) (M : Mark → Type 0) → ((x : Name) (q : Place) → M (given x q)) → Each (λ d. AtNodes (HasMark M) d.1.value) (given_of flow vs)
given-marked flow vs M f =
    each-of_map (λ x. Unit {0}) (λ d. AtNodes (HasMark M) d.1.value) (λ x. (x.0, record { depth = x.1; value = input_value x.0 [] (unwrap_or (named x.0 vs) (list tt no_trees)) })) (λ x _. input-marked M f x.0 [] _) flow.inputs (each-all (λ x. Unit {0}) (λ x. tt) flow.inputs)
