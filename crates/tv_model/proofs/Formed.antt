-- In an instance every node is grounded, each job needs only jobs of steps that were taken earlier, and no two jobs have one name.
use Rattle.std.specs.Prelude.{◌≡◌, refl, ℕ, zero, suc, ◌⊎◌, List, [], ◌∷◌, ◌++◌, map, length, true, false, not, ◌&&◌, Option, Some, None, is_none, filter_map}
use Rattle.std.proofs.Common.{sym, ap, subst, ◌∙◌, inl, inr}
use Rattle.std.specs.Cmp.Lexicographic.{bytes_decides}
use Rattle.std.proofs.lemmas.Option.{same_Some}
use Rattle.tv_lemmas.specs.Members.{Each, In}
use Rattle.tv_lemmas.proofs.Members.{any-in, each_in, in-append, in-flat, in-left, in-map, in-options, in-right, in_each, of-flat, of-options}
use Rattle.tv_value.specs.Nested.{leaf, list, no_trees, tree, Place, note, nodes, nodes_below, nodes_from}
use Rattle.tv_value.specs.Values.{Name, JobName, Value}
use Rattle.tv_value.specs.Orders.{same_name}
use Rattle.tv_value.proofs.JobNameLemmas.{same_job_decides}
use Rattle.tv_flow.specs.Flows.{Step}
use Rattle.tv_strategy.specs.Origins.{Mark, Origin, Known, at_start, by_job, by_level, fixed, from_level}
use Rattle.tv_strategy.specs.Iterations.{job, passed, Iteration, Iterations}
use Rattle.tv_strategy.specs.Measures.{strategy_depth}
use Rattle.tv_strategy.specs.Sources.{AtNodes}
use Rattle.tv_strategy.proofs.Sources.{each-append}
use Rattle.tv_strategy.proofs.Each.{each-weaken}
use Rattle.tv_gate.specs.Outcomes.{Giving}
use Rattle.tv_model.specs.instance.Delivered.{Delivered, StepMeaning}
use Rattle.tv_model.specs.instance.Ranks.{is_among}
use Rattle.tv_model.specs.instance.Steps.{strategy_of, port_mismatch, spot, node_origin, bound_values}
use Rattle.tv_model.specs.Instances.{job_on, node_jobs, step_made, steps_made}
use Rattle.tv_model.specs.Jobs.{Job, job_needs}
use Rattle.tv_model.specs.Levels.{Level, level_at, levels}
use Rattle.tv_model.specs.Made.{Meaning, Opened, Made, endings, result_of, delivered_outputs}
use Rattle.tv_model.specs.Turns.{is_bounced, is_failed}
use Rattle.tv_model.proofs.Tests.{true≠false, or_right}
use Rattle.tv_model.proofs.Turns.{or_left}
use Rattle.tv_model.proofs.Fed.{each-flat_map, each-of_map, step_ports, step_iteration, StepHas, step_iteration-has, endings-have}
use Rattle.tv_model.proofs.Earlier.{at_nodes-weaken, job_list, is_name_of, has_job, NeedEarlier}
use Rattle.tv_model.proofs.Sound.{AllStand, AllStandFrom, output-gives, step_list, step_names, AreDistinct, FreshNames, IsFree, nodes-sourced, spot-step, level-node}
use Rattle.tv_model.proofs.Members.{apart-flat, nodes-apart}
use Rattle.tv_model.specs.JobOrder.{Apart}
use Rattle.tv_model.proofs.Grounds.{GroundedBy, Grounded, grounded-weaken, grounded-more}
use Rattle.tv_model.proofs.Kept.{node_job-at, InsideIs, any_right}

-- each node is a member
module _ (xs : List (Place × Iteration)) where
  abbrev pub IsNode : Place → Iteration → Type 0
  IsNode q u = In (q, u) xs

  mutual
    pub nodes-in : (t : Iteration) (q : Place) → ((x : Place × Iteration) → In x (nodes_below q t) → In x xs) → AllStand IsNode q t
    nodes-in (leaf s e) q f = f (q, leaf s e) (inl refl)
    nodes-in (list s ts) q f = (f (q, list s ts) (inl refl), nodes_from-in ts q 0 (λ x h. f x (inr h)))

    pub nodes_from-in : (ts : Iterations) (q : Place) (i : ℕ) → ((x : Place × Iteration) → In x (nodes_from q i ts) → In x xs) → AllStandFrom IsNode q i ts
    nodes_from-in no_trees q i f = tt
    nodes_from-in (tree t ts) q i f =
        let here = nodes_below (q ++ i ∷ []) t in
        let rest = nodes_from q (suc i) ts in
        (nodes-in t (q ++ i ∷ []) (λ x h. f x (in-left x here rest h)), nodes_from-in ts q (suc i) (λ x h. f x (in-right x here rest h)))

abbrev pub LevelIn : List Made → Level → Type 0
LevelIn ms l = In l (levels (step_list ms))

abbrev pub JobIn : List Made → Job → Type 0
JobIn ms j = (o : Opened) × In o (job_list ms) × (j ≡ o.job)

pub in-names : (m : Made) (ms : List Made) → In m ms → is_among (step_names ms) m.step.step ≡ true
in-names m [] h = absurd h
in-names m (k ∷ ms) (inl p) =
    or_left (same_name m.step.step k.step.step) _ ((bytes_decides m.step.step k.step.step).1 (ap (λ x. x.step.step) p))
in-names m (k ∷ ms) (inr h) = or_right (same_name m.step.step k.step.step) _ (in-names m ms h)

-- the names of the steps are apart
pub distinct-apart : (I : JobName) (ms : List Made) → AreDistinct I ms → Apart (λ m. m.step.step) ms
distinct-apart I [] d = tt
distinct-apart I (m ∷ ms) d =
    let other = λ (k : Made) (h : In k ms) (e : k.step.step ≡ m.step.step). true≠false (sym (subst (λ n. is_among (step_names ms) n ≡ true) e (in-names k ms h)) ∙ d.1) in
    (λ k h e. other k h e, distinct-apart I ms d.2)

pub level-instance : (s : StepMeaning) (x : Place × Iteration) (l : Level) → level_at s x ≡ Some l → l.instance ≡ s.instance
level-instance s (q, leaf r (job b)) l h = cc
level-instance s (q, leaf r (passed m e)) l h = sym (ap (λ (v : Level). v.instance) (same_Some _ l h))
level-instance s (q, list r ts) l h = sym (ap (λ (v : Level). v.instance) (same_Some _ l h))

module _ (gives : Giving) (inside : Name → JobName → List (Name × Value) → Meaning) (I : JobName) (P : Meaning → JobName → Type 0) (inside_is : (f : Name) (n : JobName) (vs : List (Name × Value)) → P (inside f n vs) n) (D : ℕ → Type 0)
    (given : List (Name × Delivered)) (given_free : Each (λ d. AtNodes IsFree d.1.value) given) where
  abbrev pub Ground : List Made → ℕ → Origin → Type 0
  Ground ms k = Grounded (LevelIn ms) (JobIn ms) I k

  -- a job of these steps
  pub record IsOwn (ms : List Made) (o : Opened) : Type 0 where
    pub step : Name
    pub place : Place
    pub named : o.job.name ≡ spot I step place
    pub in_instance : o.job.instance ≡ I
    pub waits : Each (Ground ms (length ms)) o.job.waits
    pub limit : D o.job.limit
    pub no_asks : is_bounced o.job.ending ≡ true → o.job.asks ≡ []
    pub inside_it : InsideIs P o.job o.inside
    pub failed : is_failed o.job.ending ≡ (not (is_bounced o.job.ending) && is_none o.job.opens && not (any_right gives o.job.asks))
    -- it settles before its step has ended
    pub of_step : (s : StepMeaning) × In s (step_list ms) × (s.instance ≡ I) × (n : Origin) × In n s.ending × (n.known ≡ by_job o.job.name)

  -- the name of a job of m tells its step
  abbrev OfStep : Made → Type 0
  OfStep m = (o : Opened) → In o m.jobs → (q : Place) × (o.job.name ≡ spot I m.step.step q)

  pub record AreFormed (ms : List Made) : Type 0 where
    pub ends : Each (StepHas (Ground ms (length ms))) ms
    pub sources : (l : Level) → LevelIn ms l → (l.instance ≡ I) × Each (Ground ms (length ms)) l.sources
    pub jobs : (o : Opened) → In o (job_list ms) → IsOwn ms o
    pub earlier : NeedEarlier ms
    pub distinct : AreDistinct I ms
    pub names : Each OfStep ms
    pub names_apart : Each (λ m. Apart (λ o. o.job.name) m.jobs) ms

  -- ---- what is grounded

  free-ground : (ms : List Made) (k : ℕ) (o : Origin) → IsFree o → Ground ms k o
  free-ground ms zero o h = subst (λ r. Ground ms zero (record o { known = r })) (sym h.0) h.1
  free-ground ms (suc k) o h = subst (λ r. Ground ms (suc k) (record o { known = r })) (sym h.0) h.1

  given-ground : (ms : List Made) (k : ℕ) → Each (λ d. AtNodes (Ground ms k) d.1.value) given
  given-ground ms k = each-weaken (λ d. AtNodes IsFree d.1.value) (λ d. AtNodes (Ground ms k) d.1.value) (λ d h. at_nodes-weaken IsFree (Ground ms k) (free-ground ms k) d.1.value h) given given_free

  fixed-ground : (ms : List Made) (k : ℕ) → Ground ms k fixed
  fixed-ground ms k = free-ground ms k fixed (refl, refl)

  -- it needs jobs of these steps alone
  module _ (ms : List Made) where
    abbrev Has : JobName → Type 0
    Has n = has_job ms n ≡ true

    needs-had : (R : Origin → Type 0) → ((o : Origin) → R o → Each Has o.needs) → (o : Origin) (q : Known) → GroundedBy (LevelIn ms) (JobIn ms) I R o q → Each Has o.needs
    needs-had R f o at_start h = subst (Each Has) (sym h) tt
    needs-had R f o (by_job n) h =
        let j = h.1 in
        let named = (same_job_decides n j.1.0.job.name).1 (sym j.2 ∙ ap (λ (x : Job). x.name) j.1.2) in
        subst (Each Has) (sym h.0) (any-in (is_name_of n) j.1.0 (job_list ms) j.1.1 named, tt)
    needs-had R f o (by_level n) h = subst (Each Has) (sym h.4) (each-flat_map R Has (λ s. s.needs) f h.0.sources h.5)

    ground-had : (k : ℕ) (o : Origin) → Ground ms k o → Each Has o.needs
    ground-had zero o h = needs-had (λ s. ⊥) (λ s a. absurd a) o o.known h
    ground-had (suc k) o h = needs-had (Ground ms k) (λ s a. ground-had k s a) o o.known h

  -- ---- one step more

  module _ (ms : List Made) (a : AreFormed ms) (n : Name) (s : Step) (fresh : is_among (step_names ms) n ≡ false) (limit : D s.jobs) where
    abbrev new : Made
    new = step_made gives inside I given ms (n, s)

    abbrev it : Iteration
    it = step_iteration given ms s

    abbrev before : List Origin
    before = endings ms s.after

    abbrev k : ℕ
    k = length ms

    abbrev Old : Origin → Type 0
    Old = Ground ms k

    abbrev New : Origin → Type 0
    New = Ground (new ∷ ms) (suc k)

    same : (o : Origin) → Old o → Ground (new ∷ ms) k o
    same o h = grounded-weaken (λ l i. in-right l (filter_map (level_at new.step) (nodes it)) (levels (step_list ms)) i) (λ j i. (i.0, in-right i.0 new.jobs (job_list ms) i.1, i.2)) I k o h

    more : (o : Origin) → Old o → New o
    more o h = grounded-more (LevelIn (new ∷ ms)) (JobIn (new ∷ ms)) I k o (same o h)

    all-more : (os : List Origin) → Each Old os → Each New os
    all-more = each-weaken Old New more

    sources-old : (x : Place × Iteration) → In x (nodes it) → Each Old (note x.1)
    sources-old x h = each_in (λ y. Each Old (note y.1)) (nodes it) (nodes-sourced Old it [] (step_iteration-has Old (fixed-ground ms k) given (given-ground ms k) ms a.ends s)) x h

    before-old : Each Old before
    before-old = endings-have Old (fixed-ground ms k) given (given-ground ms k) ms a.ends s.after

    -- a job of the new step stands at a node
    abbrev At : Place × Iteration → Opened → Type 0
    At x o = In o (node_jobs gives inside I n s before x)

    found : (o : Opened) → In o new.jobs → (x : Place × Iteration) × In x (nodes it) × At x o
    found o h = of-flat (node_jobs gives inside I n s before) o (nodes it) h

    waits-old : (x : Place × Iteration) (o : Opened) → In x (nodes it) → At x o → Each Old o.job.waits
    waits-old x o i h =
        subst (Each Old) (sym (node_job-at gives inside I P inside_is n s before x o h).waits)
        (each-append Old (note x.1) before (sources-old x i) before-old)

    level-new : (m : Option Mark) (x : Place × Iteration) (l : Level) → In x (nodes it) → level_at new.step x ≡ Some l → l.instance ≡ I → Each Old l.sources → New (from_level l.name m l.sources)
    level-new m x l h e i w =
        (l, in-left l (filter_map (level_at new.step) (nodes it)) (levels (step_list ms)) (in-options (level_at new.step) x l (nodes it) h e), refl, i, refl, each-weaken Old (Ground (new ∷ ms) k) same l.sources w)

    node-new : (x : Place × Iteration) → In x (nodes it) → New (node_origin I n x)
    node-new (q, leaf r (job b)) h =
        let o = job_on gives inside I n s (r ++ before) q (bound_values s b) in
        let f = node_job-at gives inside I P inside_is n s before (q, leaf r (job b)) o (inl refl) in
        let i = in-flat (node_jobs gives inside I n s before) (q, leaf r (job b)) o (nodes it) h (inl refl) in
        (refl, (o.job, (o, in-left o new.jobs (job_list ms) i, refl), f.name, f.in_instance, each-weaken Old (Ground (new ∷ ms) k) same o.job.waits (waits-old (q, leaf r (job b)) o h (inl refl))))
    node-new (q, leaf r (passed m e)) h = level-new m (q, leaf r (passed m e)) _ h refl refl (sources-old (q, leaf r (passed m e)) h)
    node-new (q, list r ts) h = level-new None (q, list r ts) _ h refl refl (sources-old (q, list r ts) h)

    outputs-new : (js : List Opened) (depth i : ℕ) (ps : List (Name × ℕ)) → Each (λ d. AtNodes New d.1.value) (delivered_outputs I n js depth it i ps)
    outputs-new js depth i [] = tt
    outputs-new js depth i (p ∷ ps) = (
      output-gives New (IsNode (nodes it)) (spot I n) (λ q. result_of js i (spot I n q)) p.1 (λ q r b h. node-new (q, leaf r (job b)) h) (λ q r m e h. node-new (q, leaf r (passed m e)) h) (λ q r ts h. node-new (q, list r ts) h) it [] depth
          (nodes-in (nodes it) it [] (λ x h. h)),
      outputs-new js depth (suc i) ps,
    )

    ends-new : StepHas New new
    ends-new = (
      outputs-new new.jobs (strategy_depth (port_mismatch (step_ports given ms s)) (strategy_of s)) 0 s.outputs,
      each-append New (map (node_origin I n) (nodes it)) before
          (each-of_map (λ x. In x (nodes it)) New (node_origin I n) node-new (nodes it) (in_each (λ x. In x (nodes it)) (nodes it) (λ x h. h)))
          (all-more before before-old),
    )

    ends-old : (m : Made) → StepHas Old m → StepHas New m
    ends-old m h =
        (each-weaken (λ d. AtNodes Old d.1.value) (λ d. AtNodes New d.1.value) (λ d w. at_nodes-weaken Old New more d.1.value w) m.step.outputs h.0, all-more m.step.ending h.1)

    sources-new : (l : Level) → LevelIn (new ∷ ms) l → (l.instance ≡ I) × Each New l.sources
    sources-new l h = by (in-append l (filter_map (level_at new.step) (nodes it)) (levels (step_list ms)) h)
      where
        by : In l (filter_map (level_at new.step) (nodes it)) ⊎ LevelIn ms l → (l.instance ≡ I) × Each New l.sources
        by (inl i) =
            let x = of-options (level_at new.step) l (nodes it) i in
            (level-instance new.step x.0 l x.2, subst (Each New) (sym (level-node I new.step x.0 l x.2).1) (all-more (note x.0.1) (sources-old x.0 x.1)))
        by (inr i) = let w = a.sources l i in (w.0, all-more l.sources w.1)

    of-node : (x : Place × Iteration) (o : Opened) → At x o → (node_origin I n x).known ≡ by_job (spot I n x.0)
    of-node (q, leaf r (job b)) o h = refl
    of-node (q, leaf r (passed m e)) o h = absurd h
    of-node (q, list r ts) o h = absurd h

    job-new : (o : Opened) → In o new.jobs → IsOwn (new ∷ ms) o
    job-new o h =
        let x = found o h in
        let f = node_job-at gives inside I P inside_is n s before x.0 o x.2 in
        record {
          step = n;
          place = x.0.0;
          named = f.name;
          in_instance = f.in_instance;
          waits = all-more o.job.waits (waits-old x.0 o x.1 x.2);
          limit = subst D (sym f.limit) limit;
          no_asks = f.no_asks;
          inside_it = f.inside_it;
          failed = f.failed;
          of_step = (new.step, inl refl, refl, node_origin I n x.0, in-left (node_origin I n x.0) (map (node_origin I n) (nodes it)) before (in-map (node_origin I n) x.0 (nodes it) x.1), of-node x.0 o x.2 ∙ ap (λ z. by_job z) (sym f.name));
        }

    job-old : (o : Opened) → IsOwn ms o → IsOwn (new ∷ ms) o
    job-old o h = record {
      step = h.step;
      place = h.place;
      named = h.named;
      in_instance = h.in_instance;
      waits = all-more o.job.waits h.waits;
      limit = h.limit;
      no_asks = h.no_asks;
      inside_it = h.inside_it;
      failed = h.failed;
      of_step = let t = h.of_step in (t.0, inr t.1, t.2, t.3, t.4, t.5);
    }

    jobs-new : (o : Opened) → In o (job_list (new ∷ ms)) → IsOwn (new ∷ ms) o
    jobs-new o h = by (in-append o new.jobs (job_list ms) h)
      where
        by : In o new.jobs ⊎ In o (job_list ms) → IsOwn (new ∷ ms) o
        by (inl i) = job-new o i
        by (inr i) = job-old o (a.jobs o i)

    earlier-new : Each (λ o. Each (Has ms) (job_needs o.job)) new.jobs
    earlier-new = in_each (λ o. Each (Has ms) (job_needs o.job)) new.jobs (λ o h. let x = found o h in each-flat_map Old (Has ms) (λ r. r.needs) (ground-had ms k) o.job.waits (waits-old x.0 o x.1 x.2))

    node-named : (x : Place × Iteration) (o : Opened) → At x o → o.job.name ≡ spot I n x.0
    node-named x o h = (node_job-at gives inside I P inside_is n s before x o h).name

    names-new : OfStep new
    names-new o h = let x = found o h in (x.0.0, node-named x.0 o x.2)

    one-apart : (x : Place × Iteration) → Apart (λ (o : Opened). o.job.name) (node_jobs gives inside I n s before x)
    one-apart (q, leaf r (job b)) = (λ y h e. absurd h, tt)
    one-apart (q, leaf r (passed m e)) = tt
    one-apart (q, list r ts) = tt

    new-apart : Apart (λ (o : Opened). o.job.name) new.jobs
    new-apart =
        apart-flat (λ x. x.0) (λ (o : Opened). o.job.name) (node_jobs gives inside I n s before) (nodes it) (nodes-apart it) (λ x i. one-apart x)
        (λ x z i j o p h w e. (spot-step I n n x.0 z.0 (sym (node-named x o h) ∙ e ∙ node-named z p w)).1)

    formed-with : AreFormed (new ∷ ms)
    formed-with = record {
      ends = (ends-new, each-weaken (StepHas Old) (StepHas New) ends-old ms a.ends);
      sources = sources-new;
      jobs = jobs-new;
      earlier = (earlier-new, a.earlier);
      distinct = (refl, fresh, a.distinct);
      names = (names-new, a.names);
      names_apart = (new-apart, a.names_apart);
    }

  -- the steps of an instance are formed
  pub steps-formed : (ms : List Made) → AreFormed ms → (steps : List (Name × Step)) → FreshNames (step_names ms) steps → Each (λ s. D s.1.jobs) steps → AreFormed (steps_made gives inside I given ms steps)
  steps-formed ms a [] f l = a
  steps-formed ms a ((n, s) ∷ ss) f l = steps-formed (step_made gives inside I given ms (n, s) ∷ ms) (formed-with ms a n s f.0 l.0) ss f.1 l.1

  pub none-formed : AreFormed []
  none-formed = record { ends = tt; sources = λ l h. absurd h; jobs = λ o h. absurd h; earlier = tt; distinct = tt; names = tt; names_apart = tt }

  -- no two jobs of an instance have one name
  pub own-apart : (ms : List Made) → AreFormed ms → Apart (λ (o : Opened). o.job.name) (job_list ms)
  own-apart ms a =
      apart-flat (λ m. m.step.step) (λ (o : Opened). o.job.name) (λ m. m.jobs) ms (distinct-apart I ms a.distinct) (λ m i. each_in (λ m. Apart (λ (o : Opened). o.job.name) m.jobs) ms a.names_apart m i)
      (λ m k i j o p h w e. let x = each_in OfStep ms a.names m i o h in let z = each_in OfStep ms a.names k j p w in (spot-step I m.step.step k.step.step x.0 z.0 (sym x.1 ∙ e ∙ z.1)).0)
