-- The results of a meaning's own jobs are of the declared depths, where each of its jobs gives values of these.
use Rattle.std.specs.Prelude.{◌≡◌, refl, ℕ, zero, suc, List, [], ◌∷◌, ◌++◌, map, slice_get, unwrap_or}
use Rattle.std.proofs.Common.{sym, ap, ap₂, subst, inl}
use Rattle.tv_lemmas.specs.Members.{Each, In}
use Rattle.tv_lemmas.proofs.Members.{in-flat}
use Rattle.tv_value.specs.Nested.{leaf, list, no_trees, Place, nodes}
use Rattle.tv_value.specs.Orders.{same_job}
use Rattle.tv_value.specs.Values.{HasDepth, JobName, Name, Value}
use Rattle.tv_value.proofs.JobNameLemmas.{same_job_decides}
use Rattle.tv_gate.specs.Outcomes.{Giving}
use Rattle.tv_flow.specs.Flows.{Step}
use Rattle.tv_strategy.specs.Iterations.{Binding, job}
use Rattle.tv_strategy.specs.Origins.{Origin}
use Rattle.tv_strategy.specs.Sources.{JobsStand}
use Rattle.tv_model.specs.instance.Delivered.{Delivered, StepMeaning}
use Rattle.tv_model.specs.instance.Ranks.{ranked}
use Rattle.tv_model.specs.instance.Steps.{bound_values, declared_depths, spot}
use Rattle.tv_model.specs.Instances.{given_of}
use Rattle.tv_model.specs.RightDepths.{HaveTheseDepths}
use Rattle.tv_model.specs.Instances.{job_on, node_jobs, step_made, steps_made}
use Rattle.tv_model.specs.Made.{Made, Meaning, Opened, endings}
use Rattle.tv_model.proofs.Formed.{IsNode, nodes-in}
use Rattle.tv_model.proofs.Depths.{find-there, jobs-of_nodes}
use Rattle.tv_model.specs.instance.ByResults.{InstanceStep, Results, result_at, step_by}
use Rattle.tv_model.specs.instance.OwnDepths.{AllJobsGive, JobsGive}
use Rattle.tv_framing.specs.instances.OwnResults.{AllMadeGive, JobOutside, outside_by_results, outside_of_made, results_of}
use Rattle.tv_framing.specs.instances.Stated.{OwnResultsAreOfDepth}
use Rattle.tv_framing.proofs.instances.Results.{Agree, job-core, made_all, older-agree, one-step, own-agree, steps-core}

-- the values from the k-th output on
abbrev pub skip : ℕ → List Value → List Value
skip zero vs = vs
skip (suc k) [] = []
skip (suc k) (v ∷ vs) = skip k vs

pub first-fits : (k : ℕ) (vs : List Value) (p : Name × ℕ) (ps : List (Name × ℕ)) → HaveTheseDepths (p.1 ∷ map (λ (x : Name × ℕ). x.1) ps) (skip k vs) → HasDepth (unwrap_or (slice_get vs k) (list tt no_trees)) p.1
first-fits zero [] p ps h = absurd h
first-fits zero (v ∷ vs) p ps h = h.0
first-fits (suc k) [] p ps h = absurd h
first-fits (suc k) (v ∷ vs) p ps h = first-fits k vs p ps h

pub rest-fit : (k : ℕ) (vs : List Value) (p : Name × ℕ) (ps : List (Name × ℕ)) → HaveTheseDepths (p.1 ∷ map (λ (x : Name × ℕ). x.1) ps) (skip k vs) → HaveTheseDepths (map (λ (x : Name × ℕ). x.1) ps) (skip (suc k) vs)
rest-fit zero [] p ps h = absurd h
rest-fit zero (v ∷ vs) p ps h = h.1
rest-fit (suc k) [] p ps h = absurd h
rest-fit (suc k) (v ∷ vs) p ps h = rest-fit k vs p ps h

module _ (gives : Giving) (inside : Name → JobName → List (Name × Value) → Meaning) (instance : JobName) (given : List (Name × Delivered)) (results : Results) where
  module _ (ms : List Made) (n : Name) (s : Step) (give : Each (λ (o : Opened). HaveTheseDepths (declared_depths s) o.job.result) (step_made gives inside instance given ms (n, s)).jobs) where
    abbrev m : Made
    m = step_made gives inside instance given ms (n, s)

    there : (q : Place) (r : List Origin) (b : Binding) → In (q, leaf r (job b)) (nodes m.step.iteration) → (o : Opened) × In o m.jobs × (o.job.name ≡ spot instance n q)
    there q r b h = (
      job_on gives inside instance n s (r ++ endings ms s.after) q (bound_values s b),
      in-flat (node_jobs gives inside instance n s (endings ms s.after)) (q, leaf r (job b)) (job_on gives inside instance n s (r ++ endings ms s.after) q (bound_values s b)) (nodes m.step.iteration) h (inl refl),
      ap (λ (c : JobOutside). c.name) (job-core gives inside instance n s (r ++ endings ms s.after) q (bound_values s b)),
    )

    made-stand : (agree : Agree gives inside instance given results m) (k : ℕ) (p : Name × ℕ) → ((o : Opened) → HaveTheseDepths (declared_depths s) o.job.result → HasDepth (unwrap_or (slice_get o.job.result k) (list tt no_trees)) p.1) → JobsStand (λ q. HasDepth (result_at results n k q) p.1) [] m.step.iteration
    made-stand agree k p g =
        jobs-of_nodes (IsNode (nodes m.step.iteration)) (λ q. HasDepth (result_at results n k q) p.1)
        (λ q r b h. let t = there q r b h in
        subst (λ v. HasDepth v p.1) (agree k q)
        (find-there (λ (o : Opened). HaveTheseDepths (declared_depths s) o.job.result) (λ v. HasDepth v p.1) (λ (o : Opened). unwrap_or (slice_get o.job.result k) (list tt no_trees)) g (λ (o : Opened). same_job (spot instance n q) o.job.name) (list tt no_trees) m.jobs give t.0 t.1 ((same_job_decides (spot instance n q) t.0.job.name).1 (sym t.2))))
        m.step.iteration [] (nodes-in (nodes m.step.iteration) m.step.iteration [] (λ x h. h))

    made-give : (f : InstanceStep) → m.step ≡ f.step → Agree gives inside instance given results m → (k : ℕ) (ps : List (Name × ℕ)) → ((o : Opened) → HaveTheseDepths (declared_depths s) o.job.result → HaveTheseDepths (map (λ (x : Name × ℕ). x.1) ps) (skip k o.job.result)) → JobsGive results f k ps
    made-give f e agree k [] h = tt
    made-give f e agree k (p ∷ ps) h =
        (subst (λ (t : StepMeaning). JobsStand (λ q. HasDepth (result_at results t.step k q) p.1) [] t.iteration) e (made-stand agree k p (λ o w. first-fits k o.job.result p ps (h o w))), made-give f e agree (suc k) ps (λ o w. rest-fit k o.job.result p ps (h o w)))

  -- MEANT: so a meaning's own results are possible ones
  pub meant-give : (ms : List Made) (fs : List InstanceStep) (ss : List (Name × Step)) → map outside_of_made ms ≡ map (outside_by_results instance) fs → Each (Agree gives inside instance given results) (made_all gives inside instance given ms ss) → AllMadeGive gives inside instance given ms ss → AllJobsGive instance results given fs ss
  meant-give ms fs [] e a w = tt
  meant-give ms fs ((n, s) ∷ ss) e a w =
      let new = (older-agree gives inside instance given results (step_made gives inside instance given ms (n, s) ∷ ms) ss a).0 in
      let one = one-step gives inside instance given results ms fs (n, s) (steps-core gives inside instance given results ms fs e) new in
      (made-give ms n s w.0 (step_by instance results given fs (n, s)) (ap (λ (x : StepMeaning × List JobOutside). x.0) one) new 0 s.outputs (λ o x. x), meant-give (step_made gives inside instance given ms (n, s) ∷ ms) (step_by instance results given fs (n, s) ∷ fs) ss (ap₂ (λ c l. c ∷ l) one e) a w.1)

pub own_results-are_of_depth : OwnResultsAreOfDepth
own_results-are_of_depth gives inside instance flow vs h =
    let results = results_of instance (steps_made gives inside instance (given_of flow vs) [] (ranked flow.steps)) in
    meant-give gives inside instance (given_of flow vs) results [] [] (ranked flow.steps) refl (own-agree gives inside instance flow vs) h
