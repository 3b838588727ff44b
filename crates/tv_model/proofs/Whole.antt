-- What is so of the meaning of every flow, at any number of levels of nesting.
use Rattle.std.specs.Prelude.{◌≡◌, refl, ℕ, zero, suc, ◌⊎◌, List, [], ◌∷◌, ◌++◌, length, filter, true, false, not, ◌&&◌, Option, Some, None, is_some, is_none, flat_map, filter_map}
use Rattle.std.specs.List.{list_all}
use Rattle.std.specs.Option.{option_map_or}
use Rattle.std.proofs.Common.{sym, ap, subst, ◌∙◌, inl, inr, append_assoc, append-nil}
use Rattle.tv_lemmas.specs.Members.{Each, In}
use Rattle.tv_lemmas.proofs.Members.{each_in, in-append, in-flat, in-left, in-right, of-flat, of-map, each-filter}
use Rattle.tv_value.specs.Nested.{Place, nodes}
use Rattle.tv_value.specs.Values.{Name, JobName, Value}
use Rattle.tv_value.specs.Orders.{same_name}
use Rattle.tv_flow.specs.Flows.{Step, Flow}
use Rattle.tv_strategy.specs.Origins.{Origin, by_job}
use Rattle.tv_strategy.proofs.Each.{each-weaken}
use Rattle.tv_gate.specs.Outcomes.{Giving}
use Rattle.tv_model.specs.Jobs.{Job}
use Rattle.tv_model.specs.instance.Delivered.{StepMeaning}
use Rattle.tv_model.specs.Made.{Meaning, Opened, Made}
use Rattle.tv_model.specs.Meanings.{jobs_with_inside, steps_inside, instance_meaning, no_meaning, flow_meaning}
use Rattle.tv_model.specs.instance.Ranks.{ranked, by_rank, is_among, earlier_steps}
use Rattle.tv_model.specs.Turns.{is_bounced, is_failed}
use Rattle.tv_model.specs.Levels.{Level, level_at, levels}
use Rattle.tv_model.proofs.Tests.{true≠false}
use Rattle.tv_model.proofs.Fed.{named_map_or, find_map_or}
use Rattle.tv_model.proofs.Earlier.{job_list}
use Rattle.tv_model.proofs.Sound.{cancel, first_of, step_list, step_names, AreDistinct}
use Rattle.tv_model.proofs.Members.{apart-append, apart-flat}
use Rattle.tv_model.specs.JobOrder.{Apart}
pub use Rattle.tv_model.proofs.Members.{not-longer}
use Rattle.tv_model.proofs.Grounds.{Grounded, grounded-weaken}
use Rattle.tv_model.proofs.Kept.{InsideIs, any_right}
use Rattle.tv_model.proofs.Formed.{AreFormed, IsOwn, LevelIn, JobIn, in-names, own-apart, steps-formed, none-formed}
use Rattle.tv_model.proofs.Instances.{given_of, given-free, steps_of, ranked-fresh}
use Rattle.tv_flow.specs.Flows.{Document}
use Rattle.tv_model.specs.Meanings.{meaning}
use Rattle.tv_model.specs.Meanings.{nesting_limit}

-- ---- names

-- names of one instance that begin one name are the same
pub same-head : (I : JobName) (a b : Name × Place) (x y r s : JobName) → x ≡ I ++ a ∷ [] → y ≡ I ++ b ∷ [] → x ++ r ≡ y ++ s → x ≡ y
same-head I a b x y r s e f g =
    let whole = sym (append_assoc I (a ∷ []) r) ∙ ap (λ n. n ++ r) (sym e) ∙ g ∙ ap (λ n. n ++ s) f ∙ append_assoc I (b ∷ []) s in
    e ∙ ap (λ k. I ++ k ∷ []) (ap (first_of a) (cancel I (a ∷ r) (b ∷ s) whole)) ∙ sym f

levels-within : (ss us : List StepMeaning) → ((s : StepMeaning) → In s ss → In s us) → (l : Level) → In l (levels ss) → In l (levels us)
levels-within ss us f l h =
    let r = of-flat (λ s. filter_map (level_at s) (nodes s.iteration)) l ss h in in-flat (λ s. filter_map (level_at s) (nodes s.iteration)) r.0 l us (f r.0 r.1) r.2

abbrev pub step_key : StepMeaning → JobName × Name
step_key s = (s.instance, s.step)

-- ---- what is so of a meaning

module _ (gives : Giving) (D : ℕ → Type 0) where
  abbrev pub GroundedIn : Meaning → JobName → ℕ → Origin → Type 0
  GroundedIn m I k = Grounded (λ l. In l (levels m.steps)) (λ j. In j m.jobs) I k

  abbrev pub AreGrounded : Meaning → JobName → List Origin → Type 0
  AreGrounded m I os = (k : ℕ) × Each (GroundedIn m I k) os

  pub record IsJobOf (I : JobName) (m : Meaning) (j : Job) : Type 0 where
    pub key : Name × Place
    pub named : j.name ≡ j.instance ++ key ∷ []
    pub below : (r : JobName) × (j.instance ≡ I ++ r)
    pub waits : AreGrounded m j.instance j.waits
    pub limit : D j.limit
    pub no_asks : is_bounced j.ending ≡ true → j.asks ≡ []
    pub no_opens : is_bounced j.ending ≡ true → is_some j.opens ≡ false
    pub failed : is_failed j.ending ≡ (not (is_bounced j.ending) && is_none j.opens && not (any_right gives j.asks))
    -- it settles before its step has ended
    pub of_step : (s : StepMeaning) × In s m.steps × (s.instance ≡ j.instance) × (n : Origin) × In n s.ending × (n.known ≡ by_job j.name)
    -- its instance is the outermost, or that of a job that opens a flow
    pub parent : (j.instance ≡ I) ⊎ ((p : Job) × In p m.jobs × (p.name ≡ j.instance) × (is_some p.opens ≡ true) × (is_bounced p.ending ≡ false))

  pub record IsWhole (m : Meaning) (I : JobName) : Type 0 where
    pub jobs_apart : Apart (λ j. j.name) m.jobs
    pub steps_apart : Apart step_key m.steps
    pub jobs : (j : Job) → In j m.jobs → IsJobOf I m j
    pub sources : (l : Level) → In l (levels m.steps) → AreGrounded m l.instance l.sources
    pub steps : (s : StepMeaning) → In s m.steps → ((r : JobName) × (s.instance ≡ I ++ r)) × AreGrounded m s.instance s.ending

  pub nothing-whole : (I : JobName) → IsWhole no_meaning I
  nothing-whole I = record { jobs_apart = tt; steps_apart = tt; jobs = λ j h. absurd h; sources = λ l h. absurd h; steps = λ s h. absurd h }

  -- what stands inside a job, or nothing
  record Inside (o : Opened) : Type 0 where
    whole : Meaning
    is_whole : IsWhole whole o.job.name
    jobs : whole.jobs ≡ option_map_or (λ (n : Meaning). n.jobs) o.inside []
    steps : whole.steps ≡ steps_inside o
    opens : (j : Job) → In j whole.jobs → (is_some o.job.opens ≡ true) × (is_bounced o.job.ending ≡ false)
    closed : is_bounced o.job.ending ≡ true → is_some o.job.opens ≡ false

  inside-of : (o : Opened) → InsideIs IsWhole o.job o.inside → Inside o
  inside-of o h = by o.inside h
    where
      by : (p : Option Meaning) → InsideIs IsWhole o.job p → Inside (record o { inside = p })
      by None w = record { whole = no_meaning; is_whole = nothing-whole o.job.name; jobs = refl; steps = refl; opens = λ j i. absurd i; closed = λ b. w }
      by (Some n) w = record { whole = n; is_whole = w.0; jobs = refl; steps = refl; opens = λ j i. (w.1, w.2); closed = λ b. absurd (true≠false (sym b ∙ w.2)) }

  own-steps-apart : (I : JobName) (ms : List Made) → AreDistinct I ms → Apart step_key (step_list ms)
  own-steps-apart I [] d = tt
  own-steps-apart I (m ∷ ms) d = (
    λ s h e. let r = of-map (λ (k : Made). k.step) s ms h in
        absurd (true≠false (sym (subst (λ n. is_among (step_names ms) n ≡ true) (ap (λ t. t.step) (sym r.2) ∙ ap (λ p. p.1) e) (in-names r.0 ms r.1)) ∙ d.1)),
    own-steps-apart I ms d.2,
  )

  module _ (inside : Name → JobName → List (Name × Value) → Meaning) (inside_is : (f : Name) (n : JobName) (vs : List (Name × Value)) → IsWhole (inside f n vs) n) (I : JobName) (flow : Flow) (vs : List (Name × Value)) (a : AreFormed gives inside I IsWhole inside_is D (given_of flow vs) (given-free flow vs) (steps_of gives inside I flow vs)) where
    abbrev ms : List Made
    ms = steps_of gives inside I flow vs

    abbrev opened : List Opened
    opened = job_list ms

    abbrev m : Meaning
    m = instance_meaning gives inside I flow vs

    own-job : (o : Opened) → In o opened → In o.job m.jobs
    own-job o h = in-flat jobs_with_inside o o.job opened h (inl refl)

    own-step : (s : StepMeaning) → In s (step_list ms) → In s m.steps
    own-step s h = in-left s (step_list ms) (flat_map steps_inside opened) h

    own-level : (l : Level) → LevelIn ms l → In l (levels m.steps)
    own-level l h = levels-within (step_list ms) m.steps own-step l h

    -- what is grounded in the steps of the instance is so in the meaning
    own-grounded : (J : JobName) (os : List Origin) → J ≡ I → Each (Grounded (LevelIn ms) (JobIn ms) I (length ms)) os → AreGrounded m J os
    own-grounded J os e h =
        let up = grounded-weaken own-level (λ j r. subst (λ i. In i m.jobs) (sym r.2) (own-job r.0 r.1)) I (length ms) in
        (length ms, subst (λ n. Each (GroundedIn m n (length ms)) os) (sym e) (each-weaken _ (GroundedIn m I (length ms)) (λ o g. up o g) os h))

    module _ (o : Opened) (h : In o opened) where
      abbrev own : IsOwn gives inside I IsWhole inside_is D (given_of flow vs) (given-free flow vs) ms o
      own = a.jobs o h

      abbrev in_it : Inside o
      in_it = inside-of o own.inside_it

      abbrev n : Meaning
      n = in_it.whole

      inner-job : (j : Job) → In j n.jobs → In j m.jobs
      inner-job j i = in-flat jobs_with_inside o j opened h (inr (subst (In j) in_it.jobs i))

      inner-step : (s : StepMeaning) → In s n.steps → In s m.steps
      inner-step s i = in-right s (step_list ms) (flat_map steps_inside opened) (in-flat steps_inside o s opened h (subst (In s) in_it.steps i))

      inner-grounded : (J : JobName) (os : List Origin) → AreGrounded n J os → AreGrounded m J os
      inner-grounded J os g =
          (g.0, each-weaken (GroundedIn n J g.0) (GroundedIn m J g.0) (λ o w. grounded-weaken (λ l i. levels-within n.steps m.steps inner-step l i) inner-job J g.0 o w) os g.1)

      deeper : (r n : JobName) → n ≡ o.job.name ++ r → (s : JobName) × (n ≡ I ++ s)
      deeper r n e = ((own.step, own.place) ∷ r, e ∙ ap (λ x. x ++ r) own.named ∙ append_assoc I ((own.step, own.place) ∷ []) r)

      own-job-of : IsJobOf I m o.job
      own-job-of = record {
        key = (own.step, own.place);
        named = own.named ∙ ap (λ n. n ++ (own.step, own.place) ∷ []) (sym own.in_instance);
        below = ([], own.in_instance ∙ sym (append-nil I));
        waits = own-grounded o.job.instance o.job.waits own.in_instance own.waits;
        limit = own.limit;
        no_asks = own.no_asks;
        no_opens = in_it.closed;
        failed = own.failed;
        of_step = let t = own.of_step in (t.0, own-step t.0 t.1, t.2 ∙ sym own.in_instance, t.3, t.4, t.5);
        parent = inl own.in_instance;
      }

      inner-job-of : (j : Job) → In j n.jobs → IsJobOf I m j
      inner-job-of j i =
          let r = in_it.is_whole.jobs j i in
          record {
            key = r.key;
            named = r.named;
            below = deeper r.below.0 j.instance r.below.1;
            waits = inner-grounded j.instance j.waits r.waits;
            limit = r.limit;
            no_asks = r.no_asks;
            no_opens = r.no_opens;
            failed = r.failed;
            of_step = let t = r.of_step in (t.0, inner-step t.0 t.1, t.2, t.3, t.4, t.5);
            parent = up (in_it.opens j i) r.parent;
          }
        where
          up : (is_some o.job.opens ≡ true) × (is_bounced o.job.ending ≡ false) → (j.instance ≡ o.job.name) ⊎ ((p : Job) × In p n.jobs × (p.name ≡ j.instance) × (is_some p.opens ≡ true) × (is_bounced p.ending ≡ false)) → (j.instance ≡ I) ⊎ ((p : Job) × In p m.jobs × (p.name ≡ j.instance) × (is_some p.opens ≡ true) × (is_bounced p.ending ≡ false))
          up b (inl q) = inr (o.job, own-job o h, sym q, b.0, b.1)
          up b (inr p) = inr (p.0, inner-job p.0 p.1, p.2, p.3, p.4)

      -- names inside begin with the job's, and are longer
      deep-name : (j : Job) → In j n.jobs → (c : Name × Place) × (r : JobName) × (j.name ≡ o.job.name ++ c ∷ r)
      deep-name j i = let r = in_it.is_whole.jobs j i in longer r.below.0 r.key (r.named ∙ ap (λ x. x ++ r.key ∷ []) r.below.1)
        where
          longer : (r : JobName) (k : Name × Place) → j.name ≡ (o.job.name ++ r) ++ k ∷ [] → (c : Name × Place) × (s : JobName) × (j.name ≡ o.job.name ++ c ∷ s)
          longer [] k e = (k, [], e ∙ append_assoc o.job.name [] (k ∷ []))
          longer (c ∷ r) k e = (c, r ++ k ∷ [], e ∙ append_assoc o.job.name (c ∷ r) (k ∷ []))

      inner-name : (j : Job) → In j (jobs_with_inside o) → (r : JobName) × (j.name ≡ o.job.name ++ r)
      inner-name j (inl p) = ([], ap (λ (x : Job). x.name) p ∙ sym (append-nil o.job.name))
      inner-name j (inr i) = let d = deep-name j (subst (In j) (sym in_it.jobs) i) in (d.0 ∷ d.1, d.2)

      inner-instance : (s : StepMeaning) → In s (steps_inside o) → (r : JobName) × (s.instance ≡ o.job.name ++ r)
      inner-instance s i = (in_it.is_whole.steps s (subst (In s) (sym in_it.steps) i)).0

      inner-apart : Apart (λ (j : Job). j.name) (jobs_with_inside o)
      inner-apart = (
        λ y k f. let d = deep-name y (subst (In y) (sym in_it.jobs) k) in not-longer o.job.name d.0 d.1 (sym f ∙ d.2),
        subst (Apart (λ (j : Job). j.name)) in_it.jobs in_it.is_whole.jobs_apart,
      )

      inner-steps-apart : Apart step_key (steps_inside o)
      inner-steps-apart = subst (Apart step_key) in_it.steps in_it.is_whole.steps_apart

      job-case : (j : Job) → In j (jobs_with_inside o) → IsJobOf I m j
      job-case j (inl p) = subst (λ x. IsJobOf I m x) (sym p) own-job-of
      job-case j (inr i) = inner-job-of j (subst (In j) (sym in_it.jobs) i)

      step-case : (s : StepMeaning) → In s (steps_inside o) → ((r : JobName) × (s.instance ≡ I ++ r)) × AreGrounded m s.instance s.ending
      step-case s i =
          let r = in_it.is_whole.steps s (subst (In s) (sym in_it.steps) i) in
          (deeper r.0.0 s.instance r.0.1, inner-grounded s.instance s.ending r.1)

      level-case : (s : StepMeaning) → In s (steps_inside o) → (l : Level) → In l (filter_map (level_at s) (nodes s.iteration)) → AreGrounded m l.instance l.sources
      level-case s i l g =
          let k = in-flat (λ s. filter_map (level_at s) (nodes s.iteration)) s l n.steps (subst (In s) (sym in_it.steps) i) g in
          inner-grounded l.instance l.sources (in_it.is_whole.sources l k)

    own-instance : (s : StepMeaning) → In s (step_list ms) → s.instance ≡ I
    own-instance s h = let r = of-map (λ (k : Made). k.step) s ms h in ap (λ (t : StepMeaning). t.instance) r.2 ∙ distinct_instance ms a.distinct r.0 r.1
      where
        distinct_instance : (ns : List Made) → AreDistinct I ns → (k : Made) → In k ns → k.step.instance ≡ I
        distinct_instance [] d k i = absurd i
        distinct_instance (n ∷ ns) d k (inl p) = ap (λ (x : Made). x.step.instance) p ∙ d.0
        distinct_instance (n ∷ ns) d k (inr i) = distinct_instance ns d.2 k i

    pub instance-whole : IsWhole m I
    instance-whole = record {
      jobs_apart = apart-flat (λ o. o.job.name) (λ (j : Job). j.name) jobs_with_inside opened (own-apart gives inside I IsWhole inside_is D (given_of flow vs) (given-free flow vs) ms a) inner-apart (λ o p h k x y i g e. same-job o p h k x y i g e);
      steps_apart = apart-append step_key (step_list ms) (flat_map steps_inside opened) (own-steps-apart I ms a.distinct) (apart-flat (λ o. o.job.name) step_key steps_inside opened (own-apart gives inside I IsWhole inside_is D (given_of flow vs) (given-free flow vs) ms a) inner-steps-apart same-instance) cross;
      jobs = λ j h. let r = of-flat jobs_with_inside j opened h in job-case r.0 r.1 j r.2;
      sources = level-all;
      steps = step-all;
    }
      where
        same-job : (o p : Opened) → In o opened → In p opened → (x y : Job) → In x (jobs_with_inside o) → In y (jobs_with_inside p) → x.name ≡ y.name → o.job.name ≡ p.job.name
        same-job o p h k x y i g e =
            let b = inner-name o h x i in
            let c = inner-name p k y g in
            same-head I ((a.jobs o h).step, (a.jobs o h).place) ((a.jobs p k).step, (a.jobs p k).place) o.job.name p.job.name b.0 c.0 (a.jobs o h).named (a.jobs p k).named (sym b.1 ∙ e ∙ c.1)

        same-instance : (o p : Opened) → In o opened → In p opened → (x y : StepMeaning) → In x (steps_inside o) → In y (steps_inside p) → step_key x ≡ step_key y → o.job.name ≡ p.job.name
        same-instance o p h k x y i g e =
            let b = inner-instance o h x i in
            let c = inner-instance p k y g in
            same-head I ((a.jobs o h).step, (a.jobs o h).place) ((a.jobs p k).step, (a.jobs p k).place) o.job.name p.job.name b.0 c.0 (a.jobs o h).named (a.jobs p k).named (sym b.1 ∙ ap (λ z. z.0) e ∙ c.1)

        cross : (s t : StepMeaning) → In s (step_list ms) → In t (flat_map steps_inside opened) → step_key t ≡ step_key s → ⊥
        cross s t h k e =
            let r = of-flat steps_inside t opened k in
            let c = inner-instance r.0 r.1 t r.2 in
            let d = a.jobs r.0 r.1 in
            not-longer I (d.step, d.place) c.0 (sym (own-instance s h) ∙ sym (ap (λ z. z.0) e) ∙ c.1 ∙ ap (λ n. n ++ c.0) d.named ∙ append_assoc I ((d.step, d.place) ∷ []) c.0)

        step-all : (s : StepMeaning) → In s m.steps → ((r : JobName) × (s.instance ≡ I ++ r)) × AreGrounded m s.instance s.ending
        step-all s h = by (in-append s (step_list ms) (flat_map steps_inside opened) h)
          where
            by : In s (step_list ms) ⊎ In s (flat_map steps_inside opened) → ((r : JobName) × (s.instance ≡ I ++ r)) × AreGrounded m s.instance s.ending
            by (inl i) =
                let r = of-map (λ (k : Made). k.step) s ms i in
                let g = each_in (λ (k : Made). Each (Grounded (LevelIn ms) (JobIn ms) I (length ms)) k.step.ending) ms (each-weaken _ _ (λ k w. w.1) ms a.ends) r.0 r.1 in
                (([], own-instance s i ∙ sym (append-nil I)), own-grounded s.instance s.ending (own-instance s i) (subst (λ (t : StepMeaning). Each (Grounded (LevelIn ms) (JobIn ms) I (length ms)) t.ending) (sym r.2) g))
            by (inr i) = let r = of-flat steps_inside s opened i in step-case r.0 r.1 s r.2

        level-all : (l : Level) → In l (levels m.steps) → AreGrounded m l.instance l.sources
        level-all l h =
            let t = of-flat (λ s. filter_map (level_at s) (nodes s.iteration)) l m.steps h in by t.0 t.2 (in-append t.0 (step_list ms) (flat_map steps_inside opened) t.1)
          where
            by : (s : StepMeaning) → In l (filter_map (level_at s) (nodes s.iteration)) → In s (step_list ms) ⊎ In s (flat_map steps_inside opened) → AreGrounded m l.instance l.sources
            by s g (inl i) =
                let w = a.sources l (in-flat (λ s. filter_map (level_at s) (nodes s.iteration)) s l (step_list ms) i g) in
                own-grounded l.instance l.sources w.0 w.1
            by s g (inr i) = let r = of-flat steps_inside s opened i in level-case r.0 r.1 s r.2 l g

  -- ---- every number of levels

  pub rank-each : (R : Name × Step → Type 0) (n : ℕ) (done : List Name) (steps : List (Name × Step)) → Each R steps → Each R (by_rank n done steps)
  rank-each R zero done steps h = tt
  rank-each R (suc n) done steps h =
      find_map_or R (Each R) (λ s. s ∷ by_rank n (s.0 ∷ done) (filter (λ t. not (same_name s.0 t.0)) steps)) (λ s w. (w, rank-each R n (s.0 ∷ done) (filter (λ t. not (same_name s.0 t.0)) steps) (each-filter R (λ t. not (same_name s.0 t.0)) steps h))) (λ s. list_all (is_among done) (earlier_steps s.1)) steps [] h tt

  -- D holds of the places of every step
  abbrev pub StepsHave : Flow → Type 0
  StepsHave flow = Each (λ s. D s.1.jobs) flow.steps

  pub one-whole : (inside : Name → JobName → List (Name × Value) → Meaning) → ((f : Name) (n : JobName) (vs : List (Name × Value)) → IsWhole (inside f n vs) n) → (I : JobName) (flow : Flow) (vs : List (Name × Value)) → StepsHave flow → IsWhole (instance_meaning gives inside I flow vs) I
  one-whole inside is I flow vs w =
      instance-whole inside is I flow vs
      (steps-formed gives inside I IsWhole is D (given_of flow vs) (given-free flow vs) [] (none-formed gives inside I IsWhole is D (given_of flow vs) (given-free flow vs)) (ranked flow.steps) (ranked-fresh flow.steps) (rank-each (λ s. D s.1.jobs) (length flow.steps) [] flow.steps w))

  pub flow-whole : (flows : List (Name × Flow)) → Each (λ f. StepsHave f.1) flows → (depth : ℕ) (f : Name) (I : JobName) (vs : List (Name × Value)) → IsWhole (flow_meaning gives flows depth f I vs) I
  flow-whole flows h zero f I vs = nothing-whole I
  flow-whole flows h (suc depth) f I vs =
      named_map_or StepsHave (λ m. IsWhole m I) (λ flow. instance_meaning gives (flow_meaning gives flows depth) I flow vs) (λ flow w. one-whole (flow_meaning gives flows depth) (λ g n us. flow-whole flows h depth g n us) I flow vs w) f flows no_meaning h (nothing-whole I)

abbrev pub AnyNumber : ℕ → Type 0
AnyNumber n = Unit {0}

pub meaning-whole : (gives : Giving) (D : ℕ → Type 0) (d : Document) → Each (λ f. StepsHave gives D f.1) d.flows → IsWhole gives D (meaning gives d) []
meaning-whole gives D d h = flow-whole gives D d.flows h nesting_limit d.main [] d.inputs
