-- A job that opens a flow opens the first one that its step can, on its own inputs.
use Rattle.std.specs.Prelude.{◌≡◌, refl, ℕ, suc, List, [], ◌∷◌, ◌++◌, map, Option, Some, None, Result, Ok, Err}
use Rattle.std.specs.List.{list_any, range_with_len}
use Rattle.std.proofs.Common.{sym, subst, ◌∙◌, inl, inr}
use Rattle.tv_lemmas.specs.Members.{In}
use Rattle.tv_value.specs.Activities.{Activity, nested, service}
use Rattle.tv_value.specs.Nested.{leaf, list, Place}
use Rattle.tv_value.specs.Values.{JobName, Name, Text, Value, holds_fault}
use Rattle.tv_flow.specs.Flows.{Step}
use Rattle.tv_strategy.specs.Iterations.{Iteration, job, passed}
use Rattle.tv_strategy.specs.Origins.{Origin, Traced, plain}
use Rattle.tv_gate.specs.Outcomes.{Giving}
use Rattle.tv_dispatch.specs.Jobs.{Ask, Fate, Taken, Try, ask, match_result, open_flow, opens, outcome_of, right, take_tries, tries, wrong}
use Rattle.tv_model.specs.instance.Steps.{bound_values, declared_depths, spot}
use Rattle.tv_model.specs.Instances.{bounced_job, job_on, node_jobs, tried_job, with_fate, zip_names}
use Rattle.tv_model.specs.Jobs.{Job}
use Rattle.tv_model.specs.Made.{Meaning, Opened}
use Rattle.tv_model.proofs.Fed.{either}
use Rattle.tv_model.specs.Opening.{first_nested}

-- ---- the tries

abbrev first_open : List Try → Option Name
first_open [] = None
first_open (open_flow f ∷ ts) = Some f
first_open (ask a ∷ ts) = first_open ts

abbrev FateIs : (Name → Type 0) → Fate → Type 0
FateIs Q (right vs) = Unit {0}
FateIs Q (opens f) = Q f
FateIs Q (wrong why) = Unit {0}

taken-opens : (gives : Giving) (why : Text) (ts : List Try) → FateIs (λ f. first_open ts ≡ Some f) (take_tries gives why ts).fate
taken-opens gives why [] = tt
taken-opens gives why (open_flow f ∷ ts) = refl
taken-opens gives why (ask a ∷ ts) = by (outcome_of gives a) (λ w. taken-opens gives w ts)
  where
    by : (r : Result (List Value) Text) → ((w : Text) → FateIs (λ f. first_open ts ≡ Some f) (take_tries gives w ts).fate) → FateIs (λ f. first_open ts ≡ Some f) (match_result {C = Taken} r (λ vs. record { asks = a ∷ []; fate = right vs }) (λ reason. record { asks = a ∷ (take_tries gives reason ts).asks; fate = (take_tries gives reason ts).fate })).fate
    by (Ok vs) rec = tt
    by (Err w) rec = rec w

asks-open : (f : ℕ → Ask) (ns : List ℕ) (ts : List Try) → first_open (map (λ n. ask (f n)) ns ++ ts) ≡ first_open ts
asks-open f [] ts = refl
asks-open f (n ∷ ns) ts = asks-open f ns ts

tries-open : (vs : List Value) (ds : List ℕ) (retries k : ℕ) (as' : List Activity) → first_open (tries vs ds retries k as') ≡ first_nested as'
tries-open vs ds retries k [] = refl
tries-open vs ds retries k (service s ∷ as') =
    asks-open (λ n. record { service = s; inputs = vs; outputs = ds; activity = k; attempt = n }) (range_with_len 0 (suc retries)) (tries vs ds retries (suc k) as') ∙ tries-open vs ds retries (suc k) as'
tries-open vs ds retries k (nested f ∷ as') = refl

-- ---- one job

module _ (gives : Giving) (inside : Name → JobName → List (Name × Value) → Meaning) (I : JobName) where
  -- what a job opens is what `inside` has of its step's first nested flow, under its name and on its inputs
  abbrev pub InsideAt : Step → Job → Option Meaning → Type 0
  InsideAt s j None = j.opens ≡ None
  InsideAt s j (Some m) = (g : Name) × (first_nested s.activities ≡ Some g) × (j.opens ≡ Some g) × (m ≡ inside g j.name (zip_names s.inputs j.inputs))

  -- the job of the step s, whose name is n, at the place q
  pub record IsAt (n : Name) (s : Step) (q : Place) (o : Opened) : Type 0 where
    pub name : o.job.name ≡ spot I n q
    pub in_instance : o.job.instance ≡ I
    pub step : o.job.step ≡ n
    pub limit : o.job.limit ≡ s.jobs
    pub inside_it : InsideAt s o.job o.inside

  module _ (n : Name) (s : Step) (w : List Origin) (q : Place) (vs : List Traced) where
    fate-is : (as' : List Ask) (f : Fate) → FateIs (λ g. first_nested s.activities ≡ Some g) f → IsAt n s q (with_fate inside s (record (bounced_job I n s w q vs) { asks = as' }) f)
    fate-is as' (right rs) h = record { name = refl; in_instance = refl; step = refl; limit = refl; inside_it = refl }
    fate-is as' (wrong why) h = record { name = refl; in_instance = refl; step = refl; limit = refl; inside_it = refl }
    fate-is as' (opens f) h = record { name = refl; in_instance = refl; step = refl; limit = refl; inside_it = (f, h, refl, refl) }

    job-is : IsAt n s q (job_on gives inside I n s w q vs)
    job-is =
        let j = bounced_job I n s w q vs in
        let ts = tries (map plain j.inputs) (declared_depths s) s.retries 0 s.activities in
        either (IsAt n s q) (list_any (λ v. holds_fault v) vs) (record { job = j; inside = None }) (tried_job gives inside s j)
        (record { name = refl; in_instance = refl; step = refl; limit = refl; inside_it = refl })
        (fate-is (take_tries gives [] ts).asks (take_tries gives [] ts).fate (fated (take_tries gives [] ts).fate (taken-opens gives [] ts)))
      where
        fated : (f : Fate) → FateIs (λ g. first_open (tries (map plain (bounced_job I n s w q vs).inputs) (declared_depths s) s.retries 0 s.activities) ≡ Some g) f → FateIs (λ g. first_nested s.activities ≡ Some g) f
        fated (right vs) h = tt
        fated (wrong why) h = tt
        fated (opens g) h = sym (tries-open (map plain (bounced_job I n s w q vs).inputs) (declared_depths s) s.retries 0 s.activities) ∙ h

  pub node_job-is : (n : Name) (s : Step) (before : List Origin) (x : Place × Iteration) (o : Opened) → In o (node_jobs gives inside I n s before x) → IsAt n s x.0 o
  node_job-is n s before (q, leaf r (job b)) o (inl e) = subst (λ p. IsAt n s q p) (sym e) (job-is n s (r ++ before) q (bound_values s b))
  node_job-is n s before (q, leaf r (job b)) o (inr h) = absurd h
  node_job-is n s before (q, leaf r (passed m e)) o h = absurd h
  node_job-is n s before (q, list r ts) o h = absurd h
