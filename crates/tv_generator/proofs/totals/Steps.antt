-- What all jobs of a step add, and what is told of its output, by what is told of what it walks.
use Rattle.std.specs.Prelude.{List, Option, Some, [], flat_map, map, refl, ℕ, ◌++◌, ◌∷◌, ◌≡◌}
use Rattle.std.proofs.Common.{ap, append-nil, sym, ◌∙◌}
use Rattle.std.proofs.lemmas.List.Concat.{flat_map_single}
use Rattle.std.proofs.lemmas.List.Folds.{flat_map-map}
use Rattle.tv_lemmas.proofs.Lists.{flat-flat, map-after}
use Rattle.tv_value.specs.Nested.{Place, leaf, leaves, nodes}
use Rattle.tv_value.specs.Values.{Name, JobName, Scalar, Text, Value}
use Rattle.tv_flow.specs.Flows.{Step}
use Rattle.tv_gate.specs.Outcomes.{Giving}
use Rattle.tv_strategy.specs.Iterations.{Binding, Iteration, crossed, job, one_job, walk}
use Rattle.tv_strategy.specs.Origins.{Origin, Traced}
use Rattle.tv_model.specs.Instances.{job_on}
use Rattle.tv_model.specs.Made.{Meaning, Opened}
use Rattle.tv_model.specs.instance.Steps.{bound_values}
use Rattle.tv_generator.proofs.totals.Comes.{Comes}
use Rattle.tv_generator.proofs.totals.Crossing.{crossed-even, crossed-jobs, last-jobs}
use Rattle.tv_generator.proofs.totals.Found.{AllJobs, GivesLeaf, all_jobs, given_at, jobs_at, output, output-even, output-leaves}
use Rattle.tv_generator.proofs.totals.Jobs.{marks, tell}
use Rattle.tv_generator.proofs.totals.Tallies.{Mark}
use Rattle.tv_generator.proofs.totals.Walked.{Even, walked, walked-last}

abbrev pub tells : Traced → List (Option Text)
tells v = map tell (leaves v)

module _ {B : Type 0} where
  pub one-list : (h : Option Text → List B) (ts : List Text) (xs : List Scalar) → map tell xs ≡ map (λ t. Some t) ts → flat_map (λ s. h (tell s)) xs ≡ flat_map (λ t. h (Some t)) ts
  one-list h ts xs e = sym (flat_map-map h tell xs) ∙ ap (flat_map h) e ∙ flat_map-map h (λ t. Some t) ts

  pub two-lists : (h : Option Text → Option Text → List B) (us vs : List Text) (xs ys : List Scalar) → map tell xs ≡ map (λ t. Some t) us → map tell ys ≡ map (λ t. Some t) vs → flat_map (λ s. flat_map (λ r. h (tell s) (tell r)) ys) xs ≡ flat_map (λ u. flat_map (λ v. h (Some u) (Some v)) vs) us
  two-lists h us vs xs ys e f =
      one-list (λ m. flat_map (λ r. h m (tell r)) ys) us xs e
      ∙ ap (λ g. flat_map g us) (λ i u. one-list (h (Some u)) vs ys f i)

module _ (gives : Giving) (inside : Name → JobName → List (Name × Value) → Meaning) (n : Name) (s : Step) where
  -- what the jobs of a node add, and what is told of what they give
  abbrev pub node-adds : Place × Iteration → List Mark
  node-adds x = flat_map marks (jobs_at gives inside [] n s [] x)

  abbrev pub node-tells : Place × Iteration → List (Option Text)
  node-tells x = flat_map (λ c. tell c ∷ []) (given_at gives inside [] n s [] x)

  abbrev pub Leaf : List Origin → Binding → Type 0
  Leaf r b = GivesLeaf gives inside [] n s [] r b

  module _ (it : Iteration) where
    pub all-add : flat_map marks (all_jobs gives inside [] n s [] it) ≡ flat_map node-adds (nodes it)
    all-add = flat-flat marks (jobs_at gives inside [] n s []) (nodes it)

    pub output-tells : AllJobs Leaf it → (levels : ℕ) → tells (output gives inside [] n s [] it levels) ≡ flat_map node-tells (nodes it)
    output-tells g levels =
        ap (map tell) (output-leaves gives inside [] n s [] it g levels)
        ∙ sym (flat_map_single tell (flat_map (given_at gives inside [] n s []) (nodes it)))
        ∙ flat-flat (λ c. tell c ∷ []) (given_at gives inside [] n s []) (nodes it)

  -- a job with the values that a binding has for it
  abbrev pub job-with : List Origin → Place → Binding → Opened
  job-with r q b = job_on gives inside [] n s (r ++ []) q (bound_values s b)

  -- a step that walks one port two levels deep, beside what is bound once
  module _ (p : Name) (r : List Origin) (b : Binding) where
    abbrev pub over : Traced → Iteration
    over v = crossed (walk p 2 v) (leaf r (job b))

    module _ (adds : Option Text → List Mark) (come : (q : Place) (o : Origin) (c : Scalar) → marks (job-with (o ∷ r) q ((p, leaf o c) ∷ b)) ≡ adds (tell c)) (v : Traced) (e : Even 2 v) where
      pub over-adds : flat_map marks (all_jobs gives inside [] n s [] (over v)) ≡ flat_map adds (tells v)
      over-adds =
          all-add (over v)
          ∙ walked node-adds (λ q l ts. refl) p (λ c. adds (tell c)) (leaf r (job b)) (λ q o c. ap (λ l. (l ++ []) ++ []) (come q o c) ∙ append-nil (adds (tell c) ++ []) ∙ append-nil (adds (tell c))) 2 v e []
          ∙ sym (flat_map-map adds tell (leaves v))

    module _ (adds : Option Text → List Mark) (told : Option Text → Option Text) (come : (q : Place) (o : Origin) (c : Scalar) → Comes (job-with (o ∷ r) q ((p, leaf o c) ∷ b)) (adds (tell c)) (told (tell c))) (v : Traced) (e : Even 2 v) where
      leafy : AllJobs Leaf (over v)
      leafy = crossed-jobs p (leaf r (job b)) Leaf (λ o c q. ((come q o c).scalar, (come q o c).leaves)) 2 v e

      pub over-even : Even 2 (output gives inside [] n s [] (over v) 2)
      over-even = output-even gives inside [] n s [] (over v) 2 leafy (crossed-even p (leaf r (job b)) 0 tt 2 v e) 2

      pub over-tells : tells (output gives inside [] n s [] (over v) 2) ≡ map told (tells v)
      over-tells =
          output-tells (over v) leafy 2
          ∙ walked node-tells (λ q l ts. refl) p (λ c. told (tell c) ∷ []) (leaf r (job b)) (λ q o c. ap (λ (w : Value). flat_map (λ d. tell d ∷ []) (leaves w ++ []) ++ []) (come q o c).leaves ∙ ap (λ m. m ∷ []) (come q o c).tells) 2 v e []
          ∙ flat_map_single (λ c. told (tell c)) (leaves v)
          ∙ map-after told tell (leaves v)

  -- a step that walks two ports a level each
  module _ (p r : Name) (adds : Option Text → Option Text → List Mark) (told : Option Text → Option Text → Option Text)
      (come : (q : Place) (o : Origin) (c : Scalar) (o2 : Origin) (d : Scalar) → Comes (job-with (o ∷ o2 ∷ []) q ((p, leaf o c) ∷ (r, leaf o2 d) ∷ [])) (adds (tell c) (tell d)) (told (tell c) (tell d))) (v w : Traced) (e : Even 1 v) (f : Even 1 w) where
    abbrev pub across : Iteration
    across = crossed (walk p 1 v) (crossed (walk r 1 w) one_job)

    leafy-pairs : AllJobs Leaf across
    leafy-pairs = crossed-jobs p (crossed (walk r 1 w) one_job) Leaf (λ o c. last-jobs r (o ∷ []) ((p, leaf o c) ∷ []) Leaf (λ o2 d q. ((come q o c o2 d).scalar, (come q o c o2 d).leaves)) 1 w f) 1 v e

    pub across-even : Even 2 (output gives inside [] n s [] across 2)
    across-even = output-even gives inside [] n s [] across 2 leafy-pairs (crossed-even p (crossed (walk r 1 w) one_job) 1 (crossed-even r one_job 0 tt 1 w f) 1 v e) 2

    pub across-adds : flat_map marks (all_jobs gives inside [] n s [] across) ≡ flat_map (λ c. flat_map (λ d. adds (tell c) (tell d)) (leaves w)) (leaves v)
    across-adds =
        all-add across
        ∙ walked node-adds (λ q l ts. refl) p (λ c. flat_map (λ d. adds (tell c) (tell d)) (leaves w)) (crossed (walk r 1 w) one_job)
        (λ q o c. walked-last node-adds (λ q l ts. refl) r (λ d. adds (tell c) (tell d)) (o ∷ []) ((p, leaf o c) ∷ []) (λ q2 o2 d. ap (λ l. l ++ []) (come q2 o c o2 d).adds ∙ append-nil (adds (tell c) (tell d))) 1 w f q) 1 v e []

    pub across-tells : tells (output gives inside [] n s [] across 2) ≡ flat_map (λ c. flat_map (λ d. told (tell c) (tell d) ∷ []) (leaves w)) (leaves v)
    across-tells =
        output-tells across leafy-pairs 2
        ∙ walked node-tells (λ q l ts. refl) p (λ c. flat_map (λ d. told (tell c) (tell d) ∷ []) (leaves w)) (crossed (walk r 1 w) one_job)
        (λ q o c. walked-last node-tells (λ q l ts. refl) r (λ d. told (tell c) (tell d) ∷ []) (o ∷ []) ((p, leaf o c) ∷ []) (λ q2 o2 d. ap (λ (x : Value). flat_map (λ k. tell k ∷ []) (leaves x ++ [])) (come q2 o c o2 d).leaves ∙ ap (λ m. m ∷ []) (come q2 o c o2 d).tells) 1 w f q) 1 v e []
