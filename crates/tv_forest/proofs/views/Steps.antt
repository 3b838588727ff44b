-- The steps of an instance, each as a meaning has made it and as it is by the results of the instance's own jobs.
use Rattle.std.specs.Prelude.{◌≡◌, refl, ◌⊎◌, ◌++◌, Bool, true, false, List, [], ◌∷◌, flat_map, map, None, if◌then◌else◌}
use Rattle.std.specs.List.{list_any}
use Rattle.std.proofs.Common.{sym, ap, ap₂, subst, ◌∙◌, inl, inr}
use Rattle.tv_lemmas.specs.Members.{In}
use Rattle.tv_lemmas.proofs.Members.{each_in, in-flat, of-flat}
use Rattle.tv_value.specs.Nested.{Place, leaf, list, nodes}
use Rattle.tv_value.specs.Values.{JobName, Name, Value, holds_fault}
use Rattle.tv_gate.specs.Outcomes.{Giving}
use Rattle.tv_flow.specs.Flows.{Flow, Step}
use Rattle.tv_strategy.specs.Iterations.{Binding, Iteration, job, passed}
use Rattle.tv_strategy.specs.Origins.{Origin, Traced, plain}
use Rattle.tv_dispatch.specs.Jobs.{Fate, opens, right, take_tries, tries, wrong}
use Rattle.tv_model.specs.instance.Delivered.{StepMeaning}
use Rattle.tv_model.specs.instance.Ranks.{ranked}
use Rattle.tv_model.specs.instance.Steps.{bound_values, declared_depths, endings_of}
use Rattle.tv_model.proofs.Ranks.{IsOrdered, ranked-ordered}
use Rattle.tv_model.specs.Instances.{bounced_job, given_of, job_on, node_jobs, step_made, steps_made, tried_job, with_fate}
use Rattle.tv_model.specs.Jobs.{Job}
use Rattle.tv_model.specs.Made.{Made, Meaning, Opened, endings, step_in}
use Rattle.tv_model.specs.Turns.{is_bounced}
use Rattle.tv_model.proofs.Opening.{IsAt, node_job-is}
use Rattle.tv_model.specs.instance.ByResults.{InstanceStep, PlacedJob, Results, jobs_at_node, step_by, step_of, steps_by}
use Rattle.tv_framing.specs.instances.OwnResults.{JobOutside, outside_by_results, outside_of_made, results_of}
use Rattle.tv_framing.proofs.instances.Results.{Agree, endings-map, itself, job-core, one-step, own-agree, steps-by_results, steps-core}

module _ (gives : Giving) (inside : Name → JobName → List (Name × Value) → Meaning) (I : JobName) (flow : Flow) (vs : List (Name × Value)) where
  abbrev made_from : List Made → List (Name × Step) → List Made
  made_from ms ss = steps_made gives inside I (given_of flow vs) ms ss

  abbrev pub own_made : List Made
  own_made = made_from [] (ranked flow.steps)

  abbrev pub own_results : Results
  own_results = results_of I own_made

  abbrev steps_from : List InstanceStep → List (Name × Step) → List InstanceStep
  steps_from fs ss = steps_by I own_results (given_of flow vs) fs ss

  abbrev pub own_steps : List InstanceStep
  own_steps = steps_from [] (ranked flow.steps)

  abbrev FromFlow : List (Name × Step) → Type 0
  FromFlow ss = (s : Name × Step) → In s ss → In s (ranked flow.steps)

  -- a step of the flow, after the same steps as made and by results
  pub record Standing : Type 0 where
    pub step : Name × Step
    pub of_flow : In step (ranked flow.steps)
    pub done : List Name
    pub made : List Made
    pub earlier : List InstanceStep
    pub later : List (Name × Step)
    pub ordered : IsOrdered done (step ∷ later)
    pub alike : map outside_of_made made ≡ map (outside_by_results I) earlier
    pub all_made : made_from made (step ∷ later) ≡ own_made
    pub all_steps : steps_from earlier (step ∷ later) ≡ own_steps

  abbrev pub as_made : Standing → Made
  as_made t = step_made gives inside I (given_of flow vs) t.made t.step

  abbrev pub as_step : Standing → InstanceStep
  as_step t = step_by I own_results (given_of flow vs) t.earlier t.step

  -- ---- each step stands

  older-made : (ss : List (Name × Step)) (ms : List Made) (x : Made) → In x ms → In x (made_from ms ss)
  older-made [] ms x h = h
  older-made (s ∷ ss) ms x h = older-made ss (step_made gives inside I (given_of flow vs) ms s ∷ ms) x (inr h)

  older-steps : (ss : List (Name × Step)) (fs : List InstanceStep) (f : InstanceStep) → In f fs
      → In f (steps_from fs ss)
  older-steps [] fs f h = h
  older-steps (s ∷ ss) fs f h = older-steps ss (step_by I own_results (given_of flow vs) fs s ∷ fs) f (inr h)

  pub made-in : (t : Standing) → In (as_made t) own_made
  made-in t = subst (In (as_made t)) t.all_made (older-made t.later (as_made t ∷ t.made) (as_made t) (inl refl))

  pub step-in : (t : Standing) → In (as_step t) own_steps
  step-in t = subst (In (as_step t)) t.all_steps (older-steps t.later (as_step t ∷ t.earlier) (as_step t) (inl refl))

  pub earlier-in : (t : Standing) (f : InstanceStep) → In f t.earlier → In f own_steps
  earlier-in t f h = subst (In f) t.all_steps (older-steps t.later (as_step t ∷ t.earlier) f (inr h))

  before-same : (ms : List Made) (fs : List InstanceStep) → map outside_of_made ms ≡ map (outside_by_results I) fs
      → map step_in ms ≡ map step_of fs
  before-same ms fs e = steps-core gives inside I (given_of flow vs) own_results ms fs e

  outside-same : (t : Standing) → outside_of_made (as_made t) ≡ outside_by_results I (as_step t)
  outside-same t =
      one-step gives inside I (given_of flow vs) own_results t.made t.earlier t.step (before-same t.made t.earlier t.alike)
      (each_in (Agree gives inside I (given_of flow vs) own_results) own_made (own-agree gives inside I flow vs) (as_made t) (made-in t))

  pub same-step : (t : Standing) → (as_made t).step ≡ (as_step t).step
  same-step t = ap (λ (x : StepMeaning × List JobOutside). x.0) (outside-same t)

  module _ (s : Name × Step) (done : List Name) (ms : List Made) (fs : List InstanceStep) (ss : List (Name × Step)) (w : FromFlow (s ∷ ss)) (o : IsOrdered done (s ∷ ss)) (e : map outside_of_made ms ≡ map (outside_by_results I) fs)
      (a : made_from ms (s ∷ ss) ≡ own_made) (b : steps_from fs (s ∷ ss) ≡ own_steps) where
    abbrev first : Standing
    first = record { step = s; of_flow = w s (inl refl); done = done; made = ms; earlier = fs; later = ss; ordered = o; alike = e; all_made = a; all_steps = b }

    next-alike : map outside_of_made (as_made first ∷ ms) ≡ map (outside_by_results I) (as_step first ∷ fs)
    next-alike = ap₂ (λ c l. c ∷ l) (outside-same first) e

  made-stand : (done : List Name) (ms : List Made) (fs : List InstanceStep) (ss : List (Name × Step)) → FromFlow ss
      → IsOrdered done ss → map outside_of_made ms ≡ map (outside_by_results I) fs → made_from ms ss ≡ own_made
      → steps_from fs ss ≡ own_steps
      → (x : Made) → In x (made_from ms ss) → In x ms ⊎ ((t : Standing) × (x ≡ as_made t))
  made-stand done ms fs [] w o e a b x h = inl h
  made-stand done ms fs (s ∷ ss) w o e a b x h =
      let t = first s done ms fs ss w o e a b in
      by t (made-stand (s.0 ∷ done) (as_made t ∷ ms) (as_step t ∷ fs) ss (λ y i. w y (inr i)) o.1.1 (next-alike s done ms fs ss w o e a b) a b x h)
    where
      by : (t : Standing) → In x (as_made t ∷ ms) ⊎ ((t : Standing) × (x ≡ as_made t))
          → In x ms ⊎ ((t : Standing) × (x ≡ as_made t))
      by t (inl (inl p)) = inr (t, p)
      by t (inl (inr i)) = inl i
      by t (inr k) = inr k

  steps-stand : (done : List Name) (ms : List Made) (fs : List InstanceStep) (ss : List (Name × Step)) → FromFlow ss
      → IsOrdered done ss → map outside_of_made ms ≡ map (outside_by_results I) fs → made_from ms ss ≡ own_made
      → steps_from fs ss ≡ own_steps
      → (f : InstanceStep) → In f (steps_from fs ss) → In f fs ⊎ ((t : Standing) × (f ≡ as_step t))
  steps-stand done ms fs [] w o e a b f h = inl h
  steps-stand done ms fs (s ∷ ss) w o e a b f h =
      let t = first s done ms fs ss w o e a b in
      by t (steps-stand (s.0 ∷ done) (as_made t ∷ ms) (as_step t ∷ fs) ss (λ y i. w y (inr i)) o.1.1 (next-alike s done ms fs ss w o e a b) a b f h)
    where
      by : (t : Standing) → In f (as_step t ∷ fs) ⊎ ((t : Standing) × (f ≡ as_step t))
          → In f fs ⊎ ((t : Standing) × (f ≡ as_step t))
      by t (inl (inl p)) = inr (t, p)
      by t (inl (inr i)) = inl i
      by t (inr k) = inr k

  pub of-made : (x : Made) → In x own_made → (t : Standing) × (x ≡ as_made t)
  of-made x h = by (made-stand [] [] [] (ranked flow.steps) (λ y i. i) (ranked-ordered flow.steps) refl refl refl x h)
    where
      by : In x [] ⊎ ((t : Standing) × (x ≡ as_made t)) → (t : Standing) × (x ≡ as_made t)
      by (inl i) = absurd i
      by (inr k) = k

  pub of-step : (f : InstanceStep) → In f own_steps → (t : Standing) × (f ≡ as_step t)
  of-step f h = by (steps-stand [] [] [] (ranked flow.steps) (λ y i. i) (ranked-ordered flow.steps) refl refl refl f h)
    where
      by : In f [] ⊎ ((t : Standing) × (f ≡ as_step t)) → (t : Standing) × (f ≡ as_step t)
      by (inl i) = absurd i
      by (inr k) = k

  pub own-alike : map step_in own_made ≡ map step_of own_steps
  own-alike = before-same own_made own_steps (steps-by_results gives inside I flow vs)

  -- ---- the jobs of a step

  -- what its jobs wait for beside their sources
  abbrev pub before : Standing → List Origin
  before t = endings_of step_of t.earlier t.step.1.after

  -- the job at the place q, as made and as placed
  abbrev pub made_job : Standing → Place → List Origin → Binding → Opened
  made_job t q r b = job_on gives inside I t.step.0 t.step.1 (r ++ before t) q (bound_values t.step.1 b)

  abbrev pub placed_job : Standing → Place → List Origin → Binding → PlacedJob
  placed_job t q r b = record { step = t.step.0; place = q; inputs = bound_values t.step.1 b; waits = r ++ before t }

  before-made : (t : Standing) → endings t.made t.step.1.after ≡ before t
  before-made t =
      endings-map step_in t.made t.step.1.after ∙ ap (λ l. endings_of itself l t.step.1.after) (before-same t.made t.earlier t.alike)
      ∙ sym (endings-map step_of t.earlier t.step.1.after)

  made-jobs : (t : Standing)
      → (as_made t).jobs ≡ flat_map (node_jobs gives inside I t.step.0 t.step.1 (before t)) (nodes (as_step t).step.iteration)
  made-jobs t =
      ap₂ (λ (os : List Origin) (u : Iteration). flat_map (node_jobs gives inside I t.step.0 t.step.1 os) (nodes u)) (before-made t)
      (ap (λ (s : StepMeaning). s.iteration) (same-step t))

  pub job-made : (t : Standing) (q : Place) (r : List Origin) (b : Binding)
      → In (q, leaf r (job b)) (nodes (as_step t).step.iteration) → In (made_job t q r b) (as_made t).jobs
  job-made t q r b h =
      subst (In (made_job t q r b)) (sym (made-jobs t))
      (in-flat (node_jobs gives inside I t.step.0 t.step.1 (before t)) (q, leaf r (job b)) (made_job t q r b) (nodes (as_step t).step.iteration) h (inl refl))

  pub job-placed : (t : Standing) (q : Place) (r : List Origin) (b : Binding)
      → In (q, leaf r (job b)) (nodes (as_step t).step.iteration) → In (placed_job t q r b) (as_step t).jobs
  job-placed t q r b h = in-flat (jobs_at_node t.step.0 t.step.1 (before t)) (q, leaf r (job b)) (placed_job t q r b) (nodes (as_step t).step.iteration) h (inl refl)

  -- a job of a step stands at an end of its iteration
  pub record StandsAtEnd (t : Standing) (o : Opened) : Type 0 where
    pub place : Place
    pub sources : List Origin
    pub binding : Binding
    pub node : In (place, leaf sources (job binding)) (nodes (as_step t).step.iteration)
    pub is_job : o ≡ made_job t place sources binding

  pub of-jobs : (t : Standing) (o : Opened) → In o (as_made t).jobs → StandsAtEnd t o
  of-jobs t o h =
      let w = of-flat (node_jobs gives inside I t.step.0 t.step.1 (before t)) o (nodes (as_step t).step.iteration) (subst (In o) (made-jobs t) h) in
      by w.0 w.1 w.2
    where
      by : (x : Place × Iteration) → In x (nodes (as_step t).step.iteration)
          → In o (node_jobs gives inside I t.step.0 t.step.1 (before t) x) → StandsAtEnd t o
      by (q, leaf r (job b)) i (inl e) = record { place = q; sources = r; binding = b; node = i; is_job = e }
      by (q, leaf r (job b)) i (inr e) = absurd e
      by (q, leaf r (passed m d)) i e = absurd e
      by (q, list r us) i e = absurd e

  -- ---- what a job says

  pub job-is_at : (t : Standing) (q : Place) (r : List Origin) (b : Binding)
      → IsAt gives inside I t.step.0 t.step.1 q (made_job t q r b)
  job-is_at t q r b = node_job-is gives inside I t.step.0 t.step.1 (before t) (q, leaf r (job b)) (made_job t q r b) (inl refl)

  pub job-inputs : (t : Standing) (q : Place) (r : List Origin) (b : Binding)
      → (made_job t q r b).job.inputs ≡ bound_values t.step.1 b
  job-inputs t q r b = ap (λ (x : JobOutside). x.inputs) (job-core gives inside I t.step.0 t.step.1 (r ++ before t) q (bound_values t.step.1 b))

  pub job-waits : (t : Standing) (q : Place) (r : List Origin) (b : Binding)
      → (made_job t q r b).job.waits ≡ r ++ before t
  job-waits t q r b = ap (λ (x : JobOutside). x.waits) (job-core gives inside I t.step.0 t.step.1 (r ++ before t) q (bound_values t.step.1 b))

  fate-tried : (s : Step) (j : Job) (f : Fate) → is_bounced (with_fate inside s j f).job.ending ≡ false
  fate-tried s j (right ws) = refl
  fate-tried s j (wrong why) = refl
  fate-tried s j (opens g) = refl

  on-bounced : (n : Name) (s : Step) (waits : List Origin) (q : Place) (ws : List Traced)
      → list_any (λ w. holds_fault w) ws ≡ is_bounced (job_on gives inside I n s waits q ws).job.ending
  on-bounced n s waits q ws = by (list_any (λ w. holds_fault w) ws)
    where
      bounced : Job
      bounced = bounced_job I n s waits q ws

      by : (b : Bool)
          → b ≡ is_bounced (if b then record { job = bounced; inside = None } else tried_job gives inside s bounced).job.ending
      by true = refl
      by false =
          let t = take_tries gives [] (tries (map plain ws) (declared_depths s) s.retries 0 s.activities) in
          sym (fate-tried s (record bounced { asks = t.asks }) t.fate)

  -- it is bounced where it binds a value that holds a fault
  pub job-bounced : (t : Standing) (q : Place) (r : List Origin) (b : Binding)
      → list_any (λ w. holds_fault w) (bound_values t.step.1 b) ≡ is_bounced (made_job t q r b).job.ending
  job-bounced t q r b = on-bounced t.step.0 t.step.1 (r ++ before t) q (bound_values t.step.1 b)
