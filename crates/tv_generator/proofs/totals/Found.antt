-- A job of a step is found by its name, and what a step gives stands at the leaves of its output.
use Rattle.std.specs.Prelude.{Bool, List, Option, Some, [], cond, false, find, flat_map, pred, refl, slice_get, suc, true, unwrap_or, zero, ℕ, ◌++◌, ◌∷◌, ◌≡◌}
use Rattle.std.specs.Option.{option_map_or}
use Rattle.std.proofs.Common.{ap, ap₂, inl, inr, subst, sym, ◌∙◌}
use Rattle.std.proofs.lemmas.Grind.{flat_map-append}
use Rattle.tv_lemmas.specs.Members.{In}
use Rattle.tv_lemmas.proofs.Members.{in-flat, in-left, in-right}
use Rattle.tv_value.specs.Nested.{Place, Trees, all_leaves, leaf, leaves, list, no_trees, nodes, nodes_below, nodes_from, tree}
use Rattle.tv_value.specs.Orders.{same_job}
use Rattle.tv_value.specs.Values.{JobName, Name, Scalar, Value}
use Rattle.tv_value.proofs.JobNameLemmas.{same_job_decides}
use Rattle.tv_flow.specs.Flows.{Step}
use Rattle.tv_gate.specs.Outcomes.{Giving}
use Rattle.tv_strategy.specs.Iterations.{Binding, Iteration, Iterations, job, passed}
use Rattle.tv_strategy.specs.Origins.{Origin, Traced, from_job, traced}
use Rattle.tv_strategy.specs.Outputs.{output_below, outputs_from}
use Rattle.tv_model.specs.Instances.{job_on, node_jobs}
use Rattle.tv_model.specs.JobOrder.{Apart}
use Rattle.tv_model.specs.Made.{Meaning, Opened, result_of}
use Rattle.tv_model.specs.instance.Steps.{bound_values, spot}
use Rattle.tv_model.proofs.Kept.{job-at, node_job-at}
use Rattle.tv_model.proofs.Members.{apart-flat, nodes-apart}
use Rattle.tv_model.proofs.Sound.{spot-step}
use Rattle.tv_generator.proofs.totals.Walked.{AllEven, Even}

differ : (m n : JobName) → (m ≡ n → ⊥) → same_job m n ≡ false
differ m n f = by (same_job m n) refl
  where
    by : (b : Bool) → same_job m n ≡ b → same_job m n ≡ false
    by false e = e
    by true e = absurd (f ((same_job_decides m n).0 e))

found : (n : JobName) (os : List Opened) (o : Opened) → Apart (λ (u : Opened). u.job.name) os → In o os → o.job.name ≡ n → find (λ u. same_job n u.job.name) os ≡ Some o
found n [] o a i e = absurd i
found n (u ∷ os) o a (inl h) e =
    ap (λ b. cond b (Some u) (find (λ w. same_job n w.job.name) os)) ((same_job_decides n u.job.name).1 (sym e ∙ ap (λ (x : Opened). x.job.name) h)) ∙ ap (λ x. Some x) (sym h)
found n (u ∷ os) o a (inr i) e =
    ap (λ b. cond b (Some u) (find (λ w. same_job n w.job.name) os)) (differ n u.job.name (λ q. a.0 o i (e ∙ q))) ∙ found n os o a.1 i e

abbrev pub first : Opened → Value
first o = unwrap_or (slice_get o.job.result 0) (list tt no_trees)

-- P holds of what each job of an iteration waits for and binds, and no fault passes
abbrev mutual
  pub AllJobs : (List Origin → Binding → Type 0) → Iteration → Type 0
  AllJobs P (leaf s (job b)) = P s b
  AllJobs P (leaf s (passed m e)) = ⊥
  AllJobs P (list s ts) = AllOfThem P ts

  pub AllOfThem : (List Origin → Binding → Type 0) → Iterations → Type 0
  AllOfThem P no_trees = Unit {0}
  AllOfThem P (tree t ts) = AllJobs P t × AllOfThem P ts

module _ (gives : Giving) (inside : Name → JobName → List (Name × Value) → Meaning) (I : JobName) (n : Name) (s : Step) (before : List Origin) where
  abbrev pub jobs_at : Place × Iteration → List Opened
  jobs_at x = node_jobs gives inside I n s before x

  -- the job there gives one text or fault first
  abbrev pub GivesLeaf : List Origin → Binding → Type 0
  GivesLeaf r b = (q : Place) → (c : Scalar) × (first (job_on gives inside I n s (r ++ before) q (bound_values s b)) ≡ leaf tt c)

  -- the leaves that the jobs of a node give first
  abbrev pub given_at : Place × Iteration → List Scalar
  given_at x = flat_map (λ o. leaves (first o)) (jobs_at x)

  abbrev Any : Meaning → JobName → Type 0
  Any m j = Unit {0}

  any : (f : Name) (j : JobName) (vs : List (Name × Value)) → Any (inside f j vs) j
  any f j vs = tt

  module _ (it : Iteration) where
    abbrev pub all_jobs : List Opened
    all_jobs = flat_map jobs_at (nodes it)

    one-apart : (x : Place × Iteration) → Apart (λ (o : Opened). o.job.name) (jobs_at x)
    one-apart (q, leaf r (job b)) = (λ y h e. absurd h, tt)
    one-apart (q, leaf r (passed m e)) = tt
    one-apart (q, list r ts) = tt

    apart : Apart (λ (o : Opened). o.job.name) all_jobs
    apart =
        apart-flat (λ x. x.0) (λ (o : Opened). o.job.name) jobs_at (nodes it) (nodes-apart it) (λ x i. one-apart x)
        (λ x z i j o p h w e. (spot-step I n n x.0 z.0 (sym (node_job-at gives inside I Any any n s before x o h).name ∙ e ∙ (node_job-at gives inside I Any any n s before z p w).name)).1)

    result-there : (q : Place) (r : List Origin) (b : Binding) → In (q, leaf r (job b)) (nodes it) → result_of all_jobs 0 (spot I n q) ≡ first (job_on gives inside I n s (r ++ before) q (bound_values s b))
    result-there q r b i =
        let o = job_on gives inside I n s (r ++ before) q (bound_values s b) in
        ap (λ (p : Option Opened). option_map_or (λ (u : Opened). unwrap_or (slice_get u.job.result 0) (list tt no_trees)) p (list tt no_trees))
        (found (spot I n q) all_jobs o apart (in-flat jobs_at (q, leaf r (job b)) o (nodes it) i (inl refl)) (job-at gives inside I Any any n s (r ++ before) q (bound_values s b)).name)

    module _ (declared : ℕ) where
      abbrev out : Place → ℕ → Iteration → Traced
      out q levels t = output_below (spot I n) (λ r. result_of all_jobs 0 (spot I n r)) declared q levels t

      abbrev outs : Place → ℕ → ℕ → Iterations → Trees Origin Scalar
      outs q levels i ts = outputs_from (spot I n) (λ r. result_of all_jobs 0 (spot I n r)) declared q levels i ts

      mutual
        out-leaves : (t : Iteration) → AllJobs GivesLeaf t → (q : Place) (levels : ℕ) → ((x : Place × Iteration) → In x (nodes_below q t) → In x (nodes it)) → leaves (out q levels t) ≡ flat_map given_at (nodes_below q t)
        out-leaves (leaf r (job b)) g q levels h =
            let w = g q in
            ap (λ (v : Value). leaves (traced (from_job (spot I n q)) v)) (result-there q r b (h (q, leaf r (job b)) (inl refl)) ∙ w.1)
            ∙ ap (λ (v : Value). (leaves v ++ []) ++ []) (sym w.1)
        out-leaves (leaf r (passed m e)) g q levels h = absurd g
        out-leaves (list r ts) g q levels h = outs-leaves ts g q (pred levels) 0 (λ x i. h x (inr i))

        outs-leaves : (ts : Iterations) → AllOfThem GivesLeaf ts → (q : Place) (levels i : ℕ) → ((x : Place × Iteration) → In x (nodes_from q i ts) → In x (nodes it)) → all_leaves (outs q levels i ts) ≡ flat_map given_at (nodes_from q i ts)
        outs-leaves no_trees g q levels i h = refl
        outs-leaves (tree t ts) g q levels i h =
            let here = nodes_below (q ++ i ∷ []) t in
            let rest = nodes_from q (suc i) ts in
            ap₂ (λ a b. a ++ b) (out-leaves t g.0 (q ++ i ∷ []) levels (λ x k. h x (in-left x here rest k))) (outs-leaves ts g.1 q levels (suc i) (λ x k. h x (in-right x here rest k)))
            ∙ sym (flat_map-append given_at here rest)

      mutual
        out-even : (d : ℕ) (t : Iteration) → AllJobs GivesLeaf t → Even d t → (q : Place) (levels : ℕ) → ((x : Place × Iteration) → In x (nodes_below q t) → In x (nodes it)) → Even d (out q levels t)
        out-even zero (leaf r (job b)) g e q levels h =
            subst (λ (v : Value). Even zero (traced (from_job (spot I n q)) v)) (sym (result-there q r b (h (q, leaf r (job b)) (inl refl)) ∙ (g q).1)) tt
        out-even (suc d) (leaf r (job b)) g e q levels h = absurd e
        out-even d (leaf r (passed m f)) g e q levels h = absurd g
        out-even zero (list r ts) g e q levels h = absurd e
        out-even (suc d) (list r ts) g e q levels h = outs-even d ts g e q (pred levels) 0 (λ x i. h x (inr i))

        outs-even : (d : ℕ) (ts : Iterations) → AllOfThem GivesLeaf ts → AllEven d ts → (q : Place) (levels i : ℕ) → ((x : Place × Iteration) → In x (nodes_from q i ts) → In x (nodes it)) → AllEven d (outs q levels i ts)
        outs-even d no_trees g e q levels i h = tt
        outs-even d (tree t ts) g e q levels i h =
            let here = nodes_below (q ++ i ∷ []) t in
            let rest = nodes_from q (suc i) ts in
            (out-even d t g.0 e.0 (q ++ i ∷ []) levels (λ x k. h x (in-left x here rest k)), outs-even d ts g.1 e.1 q levels (suc i) (λ x k. h x (in-right x here rest k)))

    -- what the step gives at its first output
    abbrev pub output : ℕ → Traced
    output levels = output_below (spot I n) (λ r. result_of all_jobs 0 (spot I n r)) 0 [] levels it

    pub output-leaves : AllJobs GivesLeaf it → (levels : ℕ) → leaves (output levels) ≡ flat_map given_at (nodes it)
    output-leaves g levels = out-leaves 0 it g [] levels (λ x i. i)

    pub output-even : (d : ℕ) → AllJobs GivesLeaf it → Even d it → (levels : ℕ) → Even d (output levels)
    output-even d g e levels = out-even 0 d it g e [] levels (λ x i. i)
