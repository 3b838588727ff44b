-- Known jobs are jobs of the run, and those that were begun are known.
use Rattle.std.specs.Prelude.{◌≡◌, refl, ℕ, ◌&&◌, ◌||◌, not, Bool, true, false, List, [], ◌∷◌, Option, Some, None, find, flat_map, option_and_then, IsPermutation}
use Rattle.std.specs.Cmp.Lexicographic.{bytes_decides}
use Rattle.std.specs.List.{list_all, list_any}
use Rattle.std.proofs.Common.{sym, ap, ap₂, subst, ◌∙◌, inl}
use Rattle.std.proofs.lemmas.Bool.{and_parts, true≢false, or_right}
use Rattle.std.proofs.lemmas.List.Sorted.{IsPermutation-sym}
use Rattle.tv_lemmas.specs.Members.{In}
use Rattle.tv_lemmas.proofs.Members.{each_in, found-in, in-flat, of-flat}
use Rattle.tv_lemmas.proofs.Lists.{all-weaken}
use Rattle.tv_value.specs.Nested.{Place, at, leaf, list, nodes, note}
use Rattle.tv_value.specs.Orders.{same_name}
use Rattle.tv_value.specs.Values.{JobName, Name, Value, holds_fault}
use Rattle.tv_gate.specs.Outcomes.{Giving}
use Rattle.tv_flow.specs.Flows.{Flow}
use Rattle.tv_strategy.specs.Iterations.{Binding, Iteration, job, passed}
use Rattle.tv_strategy.specs.Origins.{Origin, Traced}
use Rattle.tv_model.specs.instance.Steps.{spot}
use Rattle.tv_matching.specs.Items.{item, kind_of, known_items}
use Rattle.tv_matching.proofs.Members.{in-permutes}
use Rattle.tv_model.specs.instance.ByResults.{InstanceStep}
use Rattle.tv_model.specs.instance.Events as events
use Rattle.tv_model.specs.instance.Events.{Event, Events, fault_set, gave, gives_at, has_result, is_taken, known_by, takes_at, took}
use Rattle.tv_model.specs.instance.Fitting.{FitsNode}
use Rattle.tv_model.specs.instance.Legality.{AreLegal, HasSources, IsLegalNext, node_of}
use Rattle.tv_model.specs.Jobs.{Job}
use Rattle.tv_model.specs.Made.{Made, Meaning, Opened}
use Rattle.tv_model.specs.Meanings.{flow_meaning}
use Rattle.tv_model.specs.Turns.{is_bounced}
use Rattle.tv_model.proofs.Sound.{all-stand, nodes-stand, spot-step, StandsAt}
use Rattle.tv_history.specs.Entries.{History, is_begun_entry}
use Rattle.tv_history.specs.Histories.{is_running, is_settled, is_settled_name}
use Rattle.tv_framing.proofs.instances.Events.{hits, one-more}
use Rattle.tv_framing.proofs.instances.Settling.{node-listed}
use Rattle.tv_framing.specs.Frames.{FitsKind, job_places, known_jobs}
use Rattle.tv_framing.specs.Views.{View}
use Rattle.tv_framing.proofs.Frames.{in-finds, job-end, known-stands, stands-known, steps-distinct}
use Rattle.tv_forest.proofs.views.Runs.{Runs, in-all, results_here, settled-same, steps_here}
use Rattle.tv_forest.proofs.views.Steps.{Standing, StandsAtEnd, as_made, as_step, job-bounced, job-inputs, job-is_at, job-made, made-in, made_job, of-jobs, of-made, of-step, own_made, step-in}

-- what stands at a place is a node there, and the other way round
pub node-at : (t : Iteration) (q : Place) (u : Iteration) → In (q, u) (nodes t) → at t q ≡ Some u
node-at t q u h = each_in (λ (x : Place × Iteration). StandsAt t x.0 x.1) (nodes t) (nodes-stand (StandsAt t) t [] (all-stand t t [] refl)) (q, u) h

abbrev sources_in : Option Iteration → List Origin
sources_in None = []
sources_in (Some t) = note t

-- ---- what an event of a job tells

-- at this spot stands a job whose sources these events make known
pub record EndsThere (I : JobName) (fs : List InstanceStep) (es : Events) (x : Name × Place) : Type 0 where
  pub step : InstanceStep
  pub is_step : In step fs
  pub name : step.step.step ≡ x.0
  pub sources : List Origin
  pub binding : Binding
  pub node : at step.step.iteration x.1 ≡ Some (leaf sources (job binding))
  pub known : list_all (known_by I es) sources ≡ true

more-known : (I : JobName) (e : Event) (es : Events) (os : List Origin) → list_all (known_by I es) os ≡ true
    → list_all (known_by I (e ∷ es)) os ≡ true
more-known I e es os h = all-weaken (known_by I es) (known_by I (e ∷ es)) (λ o k. one-more I e es o ∙ or_right (hits I e o) (known_by I es o) k) os h

pub ends-still : (I : JobName) (fs : List InstanceStep) (e : Event) (es : Events) (x : Name × Place)
    → EndsThere I fs es x → EndsThere I fs (e ∷ es) x
ends-still I fs e es x w = record { step = w.step; is_step = w.is_step; name = w.name; sources = w.sources; binding = w.binding; node = w.node; known = more-known I e es w.sources w.known }

-- the event is of the job at that spot
abbrev IsOfJob : Event → Name × Place → Type 0
IsOfJob (gave s q vs) x = (s ≡ x.0) × (q ≡ x.1)
IsOfJob (events.closed s q n) x = ⊥
IsOfJob (fault_set s q d) x = ⊥
IsOfJob (took s q) x = (s ≡ x.0) × (q ≡ x.1)

module _ (I : JobName) (fs : List InstanceStep) (es : Events) (x : Name × Place) where
  ends-found : (s : Name) (q : Place) → s ≡ x.0 → q ≡ x.1 → (o : Option InstanceStep)
      → find (λ (f : InstanceStep). same_name s f.step.step) fs ≡ o
      → FitsNode (took s q) (option_and_then (λ (f : InstanceStep). at f.step.iteration q) o) → HasSources (known_by I es) (option_and_then (λ (f : InstanceStep). at f.step.iteration q) o) → EndsThere I fs es x
  ends-found s q n p None f h k = absurd h
  ends-found s q n p (Some f) g h k = by (at f.step.iteration q) refl h k
    where
      there : In f fs × (same_name s f.step.step ≡ true)
      there = found-in (λ (f : InstanceStep). same_name s f.step.step) fs f g

      by : (u : Option Iteration) → at f.step.iteration q ≡ u → FitsNode (took s q) u → HasSources (known_by I es) u
          → EndsThere I fs es x
      by None a h k = absurd h
      by (Some (leaf r (job b))) a h k =
          record { step = f; is_step = there.0; name = sym ((bytes_decides s f.step.step).0 there.1) ∙ n; sources = r; binding = b; node = ap (at f.step.iteration) (sym p) ∙ a; known = k }
      by (Some (leaf r (passed m d))) a h k = absurd h
      by (Some (list r ts)) a h k = absurd h

  -- an event of a job is legal where the job ends there
  ends-legal : (e : Event) → IsOfJob e x → IsLegalNext I fs es e → EndsThere I fs es x
  ends-legal (gave s q vs) w l = ends-found s q w.0 w.1 (find (λ (f : InstanceStep). same_name s f.step.step) fs) refl (as-took (node_of fs (gave s q vs)) l.fits) l.sources
    where
      as-took : (o : Option Iteration) → FitsNode (gave s q vs) o → FitsNode (took s q) o
      as-took None h = h
      as-took (Some (leaf r (job b))) h = h
      as-took (Some (leaf r (passed m d))) h = h
      as-took (Some (list r ts)) h = h
  ends-legal (events.closed s q n) w l = absurd w
  ends-legal (fault_set s q d) w l = absurd w
  ends-legal (took s q) w l = ends-found s q w.0 w.1 (find (λ (f : InstanceStep). same_name s f.step.step) fs) refl l.fits l.sources

spot-parts : (s t : Name) (q r : Place) → (same_name s t && same_name q r) ≡ true → (t ≡ s) × (r ≡ q)
spot-parts s t q r h =
    let p = and_parts (same_name s t) (same_name q r) h in
    (sym ((bytes_decides s t).0 p.0), sym ((bytes_decides q r).0 p.1))

-- a job that is taken or has a result by legal events ends there
module _ (I : JobName) (fs : List InstanceStep) (x : Name × Place) where
  one-of_job : (e : Event) → (takes_at x.0 x.1 e || gives_at x.0 x.1 e) ≡ true → IsOfJob e x
  one-of_job (gave t r vs) h = spot-parts x.0 t x.1 r h
  one-of_job (events.closed t r n) h = absurd (true≢false (sym h))
  one-of_job (fault_set t r d) h = absurd (true≢false (sym h))
  one-of_job (took t r) h = spot-parts x.0 t x.1 r (either (same_name x.0 t && same_name x.1 r) h)
    where
      either : (b : Bool) → (b || false) ≡ true → b ≡ true
      either true h = refl
      either false h = h

  pub ends-told : (es : Events) → AreLegal I fs es → (is_taken es x.0 x.1 || has_result es x.0 x.1) ≡ true
      → EndsThere I fs es x
  ends-told [] l h = absurd (true≢false (sym h))
  ends-told (e ∷ es) l h = by (takes_at x.0 x.1 e || gives_at x.0 x.1 e) refl (λ k. ends-told es l.1 k)
    where
      crossed : (a b c d : Bool) → ((a || b) || (c || d)) ≡ true → (a || c) ≡ false → (b || d) ≡ true
      crossed true b c d h k = absurd (true≢false k)
      crossed false b true d h k = absurd (true≢false k)
      crossed false b false d h k = h

      by : (b : Bool) → (takes_at x.0 x.1 e || gives_at x.0 x.1 e) ≡ b
          → ((is_taken es x.0 x.1 || has_result es x.0 x.1) ≡ true → EndsThere I fs es x) → EndsThere I fs (e ∷ es) x
      by true k rec = ends-still I fs e es x (ends-legal I fs es x e (one-of_job e k) l.0)
      by false k rec = ends-still I fs e es x (rec (crossed (takes_at x.0 x.1 e) (is_taken es x.0 x.1) (gives_at x.0 x.1 e) (has_result es x.0 x.1) h k))

-- ---- known jobs of a view

module _ (gives : Giving) (flows : List (Name × Flow)) (m : Meaning) (past : History) (I : JobName) (levels : Name → ℕ) (v : View) (r : Runs gives flows m past I levels v) where
  abbrev fs : List InstanceStep
  fs = steps_here gives flows m past I levels v r

  abbrev inside : Name → JobName → List (Name × Value) → Meaning
  inside = flow_meaning gives flows r.nesting

  abbrev Stands : Type 0
  Stands = Standing gives inside I v.flow v.inputs

  abbrev step_at : Stands → InstanceStep
  step_at t = as_step gives inside I v.flow v.inputs t

  abbrev job_at : Stands → Place → List Origin → Binding → Opened
  job_at t q s b = made_job gives inside I v.flow v.inputs t q s b

  abbrev pub EndsHere : Name × Place → Type 0
  EndsHere x = EndsThere I fs v.events x

  jobs-known : IsPermutation v.jobs (known_jobs (known_by I v.events) fs)
  jobs-known = in-all gives flows m past I levels v r (λ instance results fs. IsPermutation v.jobs (known_jobs (known_by instance v.events) fs)) r.frame.known

  -- a known job ends there
  pub known-ends : (x : Name × Place) → In x v.jobs → EndsHere x
  known-ends x h =
      let w = job-end (known_by I v.events) fs x.0 x.1 (in-permutes x (known_jobs (known_by I v.events) fs) v.jobs (IsPermutation-sym _ _ jobs-known) h) in
      let u = known-stands (known_by I v.events) w.0.step.iteration w.3 w.4 in
      by w.0 w.1 w.2 u.0 (ap (at w.0.step.iteration) (sym w.5) ∙ u.1) (subst (FitsKind (gave x.0 x.1 [])) u.2 w.6) u.3
    where
      by : (f : InstanceStep) → In f fs → f.step.step ≡ x.0 → (u : Iteration) → at f.step.iteration x.1 ≡ Some u
          → FitsKind (gave x.0 x.1 []) (kind_of u) → list_all (known_by I v.events) (note u) ≡ true → EndsHere x
      by f i n (leaf s (job b)) a k w = record { step = f; is_step = i; name = n; sources = s; binding = b; node = a; known = w }
      by f i n (leaf s (passed c d)) a k w = absurd k
      by f i n (list s ts) a k w = absurd k

  -- and the other way round
  pub ends-known : (x : Name × Place) → EndsHere x → In x v.jobs
  ends-known x w =
      let u : Iteration = leaf w.sources (job w.binding) in
      in-permutes x v.jobs (known_jobs (known_by I v.events) fs) jobs-known
      (in-flat (λ (f : InstanceStep). flat_map (job_places f.step.step) (known_items (known_by I v.events) f.step.iteration)) w.step x fs w.is_step
      (in-flat (job_places w.step.step.step) (item x.1 (kind_of u)) x (known_items (known_by I v.events) w.step.step.iteration)
      (stands-known (known_by I v.events) w.step.step.iteration x.1 u w.node w.known) (inl (ap (λ n. (n, x.1)) (sym w.name)))))

  -- ---- jobs of the run

  -- the run has this job at that spot
  pub record Finds (j : Job) (x : Name × Place) : Type 0 where
    pub listed : In j m.jobs
    pub within : j.instance ≡ I
    pub step : j.step ≡ x.0
    pub name : j.name ≡ spot I x.0 x.1

  -- it is that of a step, which ends there
  pub record IsHere (j : Job) (x : Name × Place) : Type 0 where
    pub stands : Stands
    pub sources : List Origin
    pub binding : Binding
    pub name : stands.step.0 ≡ x.0
    pub node : at (step_at stands).step.iteration x.1 ≡ Some (leaf sources (job binding))
    pub is_job : j ≡ (job_at stands x.1 sources binding).job

  -- a step's job is one of the run
  job-finds : (t : Stands) (q : Place) (s : List Origin) (b : Binding)
      → at (step_at t).step.iteration q ≡ Some (leaf s (job b)) → Finds (job_at t q s b).job (t.step.0, q)
  job-finds t q s b node =
      let is = job-is_at gives inside I v.flow v.inputs t q s b in
      let mine = job-made gives inside I v.flow v.inputs t q s b (node-listed (step_at t).step.iteration q (leaf s (job b)) node) in
      record {
        listed =
            r.part.all_jobs (job_at t q s b)
            (in-flat (λ (n : Made). n.jobs) (as_made gives inside I v.flow v.inputs t) (job_at t q s b) (own_made gives inside I v.flow v.inputs) (made-in gives inside I v.flow v.inputs t) mine);
        within = is.in_instance;
        step = is.step;
        name = is.name;
      }

  job-here : (t : Stands) (q : Place) (s : List Origin) (b : Binding)
      → at (step_at t).step.iteration q ≡ Some (leaf s (job b)) → IsHere (job_at t q s b).job (t.step.0, q)
  job-here t q s b node = record { stands = t; sources = s; binding = b; name = refl; node = node; is_job = refl }

  -- where a job ends there is one of the run
  pub ends-find : (x : Name × Place) → EndsHere x → (j : Job) × Finds j x
  ends-find x w =
      let t = of-step gives inside I v.flow v.inputs w.step w.is_step in (
        (job_at t.0 x.1 w.sources w.binding).job,
        subst (λ n. Finds (job_at t.0 x.1 w.sources w.binding).job (n, x.1)) (ap (λ (f : InstanceStep). f.step.step) (sym t.1) ∙ w.name)
            (job-finds t.0 x.1 w.sources w.binding (ap (λ (f : InstanceStep). at f.step.iteration x.1) (sym t.1) ∙ w.node)),
      )

  abbrev Somewhere : Job → Type 0
  Somewhere j = (x : Name × Place) × Finds j x × IsHere j x

  -- each job of the instance is one of a step's
  pub somewhere : (j : Job) → In j m.jobs → j.instance ≡ I → Somewhere j
  somewhere j h e =
      let o = r.part.jobs j h e in
      let n = of-flat (λ (n : Made). n.jobs) o.0 (own_made gives inside I v.flow v.inputs) o.1 in
      let t = of-made gives inside I v.flow v.inputs n.0 n.1 in
      subst Somewhere (sym o.2) (by t.0 o.0 (of-jobs gives inside I v.flow v.inputs t.0 o.0 (subst (λ (y : Made). In o.0 y.jobs) t.1 n.2)))
    where
      by : (t : Stands) (o : Opened) → StandsAtEnd gives inside I v.flow v.inputs t o → Somewhere o.job
      by t o s =
          let node = node-at (step_at t).step.iteration s.place (leaf s.sources (job s.binding)) s.node in
          subst (λ (y : Opened). Somewhere y.job) (sym s.is_job)
          ((t.step.0, s.place), job-finds t s.place s.sources s.binding node, job-here t s.place s.sources s.binding node)

  -- a job that was found at a spot is the one of its step there
  pub found-here : (j : Job) (x : Name × Place) → Finds j x → IsHere j x
  found-here j x w =
      let s = somewhere j w.listed w.within in
      let e = spot-step I s.0.0 x.0 s.0.1 x.1 (sym s.1.name ∙ w.name) in
      subst (IsHere j) (ap₂ (λ a b. (a, b)) e.0 e.1) s.2

  -- the sources of what ends there are those of the job
  pub same-sources : (x : Name × Place) → EndsHere x → (j : Job) → (is : IsHere j x)
      → list_all (known_by I v.events) is.sources ≡ true
  same-sources x w j is =
      let a = step_at is.stands in
      let first = in-finds fs (steps-distinct v I (results_here gives flows m past I levels v r)) in
      let same : Some w.step ≡ Some a =
      sym (first w.step w.is_step) ∙ ap (λ n. find (λ (g : InstanceStep). same_name n g.step.step) fs) (w.name ∙ sym is.name) ∙ first a (step-in gives inside I v.flow v.inputs is.stands) in
      subst (λ os. list_all (known_by I v.events) os ≡ true)
      (ap sources_in (sym w.node ∙ ap (λ (o : Option InstanceStep). option_and_then (λ (f : InstanceStep). at f.step.iteration x.1) o) same ∙ is.node)) w.known

  -- ---- begun and settled

  pub settled-told : (j : Job) (x : Name × Place) → Finds j x → is_settled past j ≡ has_result v.events x.0 x.1
  settled-told j x w = sym (settled-same gives flows m past I levels v r j w.listed) ∙ ap (is_settled_name m past) w.name ∙ r.told.results x.0 x.1

  pub begun-told : (j : Job) (x : Name × Place) → Finds j x
      → list_any (is_begun_entry j.name) past ≡ is_taken v.events x.0 x.1
  begun-told j x w = ap (λ n. list_any (is_begun_entry n) past) w.name ∙ r.told.taken x.0 x.1

  pub begun-known : (j : Job) (x : Name × Place) → Finds j x → (is_running past j || is_settled past j) ≡ true
      → In x v.jobs
  begun-known j x w h =
      ends-known x
      (ends-told I fs x v.events (in-all gives flows m past I levels v r (λ instance results fs. AreLegal instance fs v.events) r.frame.legal)
      (ap₂ (λ a b. a || b) (sym (begun-told j x w)) (sym (settled-told j x w)) ∙ begun (list_any (is_begun_entry j.name) past) (is_settled past j) h))
    where
      begun : (a b : Bool) → ((a && not b) || b) ≡ true → (a || b) ≡ true
      begun true b h = refl
      begun false b h = h

  -- it is bounced where it binds a value that holds a fault
  pub bounced-told : (j : Job) (x : Name × Place) → Finds j x
      → list_any (λ u. holds_fault u) j.inputs ≡ is_bounced j.ending
  bounced-told j x w =
      let t = found-here j x w in
      let inputs = job-inputs gives inside I v.flow v.inputs t.stands x.1 t.sources t.binding in
      subst (λ (i : Job). list_any (λ u. holds_fault u) i.inputs ≡ is_bounced i.ending) (sym t.is_job)
      (ap (λ (us : List Traced). list_any (λ u. holds_fault u) us) inputs ∙ job-bounced gives inside I v.flow v.inputs t.stands x.1 t.sources t.binding)
