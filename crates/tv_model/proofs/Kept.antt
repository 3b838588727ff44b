-- What is so of a job however it comes out.
use Rattle.std.specs.Prelude.{◌≡◌, refl, List, [], ◌∷◌, ◌++◌, map, Bool, true, false, not, ◌&&◌, ◌||◌, Option, Some, None, is_some, is_none, is_ok, Result, Ok, Err}
use Rattle.std.specs.List.{list_any}
use Rattle.std.proofs.Common.{sym, ap, subst, inl, inr}
use Rattle.tv_lemmas.specs.Members.{In}
use Rattle.tv_value.specs.Nested.{leaf, list, Place, note}
use Rattle.tv_value.specs.Values.{Text, Name, JobName, Value, holds_fault}
use Rattle.tv_flow.specs.Flows.{Step}
use Rattle.tv_strategy.specs.Origins.{Origin, Traced, plain}
use Rattle.tv_strategy.specs.Iterations.{job, passed, Iteration}
use Rattle.tv_gate.specs.Outcomes.{Giving}
use Rattle.tv_dispatch.specs.Jobs.{Ask, outcome_of, Try, ask, open_flow, tries, Fate, right, opens, wrong, Taken, take_tries, match_result}
use Rattle.tv_model.specs.Jobs.{Job}
use Rattle.tv_model.specs.Made.{Meaning, Opened}
use Rattle.tv_model.specs.instance.Steps.{spot, declared_depths, bound_values}
use Rattle.tv_model.specs.Instances.{bounced_job, tried_job, job_on, node_jobs, with_fate}
use Rattle.tv_model.specs.Turns.{is_bounced, is_failed}
use Rattle.tv_model.proofs.Tests.{true≠false}
use Rattle.tv_model.proofs.Fed.{either}

abbrev pub any_right : Giving → List Ask → Bool
any_right gives as' = list_any (λ a. is_ok (outcome_of gives a)) as'

-- a right ending has a right try, a wrong one has none
abbrev pub FateFits : Giving → Fate → List Ask → Type 0
FateFits gives (right vs) as' = any_right gives as' ≡ true
FateFits gives (opens f) as' = any_right gives as' ≡ false
FateFits gives (wrong why) as' = any_right gives as' ≡ false

fits-later : (gives : Giving) (f : Fate) (a : Ask) (as' : List Ask) → is_ok (outcome_of gives a) ≡ false → FateFits gives f as' → FateFits gives f (a ∷ as')
fits-later gives (right vs) a as' e h = subst (λ b. (b || any_right gives as') ≡ true) (sym e) h
fits-later gives (opens f) a as' e h = subst (λ b. (b || any_right gives as') ≡ false) (sym e) h
fits-later gives (wrong why) a as' e h = subst (λ b. (b || any_right gives as') ≡ false) (sym e) h

pub taken-fits : (gives : Giving) (why : Text) (ts : List Try) → FateFits gives (take_tries gives why ts).fate (take_tries gives why ts).asks
taken-fits gives why [] = refl
taken-fits gives why (open_flow f ∷ ts) = refl
taken-fits gives why (ask a ∷ ts) = by (outcome_of gives a) refl (λ w. taken-fits gives w ts)
  where
    by : (r : Result (List Value) Text) → outcome_of gives a ≡ r → ((w : Text) → FateFits gives (take_tries gives w ts).fate (take_tries gives w ts).asks) → FateFits gives (match_result {C = Taken} r (λ vs. record { asks = a ∷ []; fate = right vs }) (λ reason. record { asks = a ∷ (take_tries gives reason ts).asks; fate = (take_tries gives reason ts).fate })).fate (match_result {C = Taken} r (λ vs. record { asks = a ∷ []; fate = right vs }) (λ reason. record { asks = a ∷ (take_tries gives reason ts).asks; fate = (take_tries gives reason ts).fate })).asks
    by (Ok vs) e rec = subst (λ b. (b || false) ≡ true) (sym (ap is_ok e)) refl
    by (Err w) e rec = fits-later gives (take_tries gives w ts).fate a (take_tries gives w ts).asks (ap is_ok e) (rec w)

-- P holds of what is inside, which is there where a flow was opened
abbrev pub InsideIs : (Meaning → JobName → Type 0) → Job → Option Meaning → Type 0
InsideIs P j None = is_some j.opens ≡ false
InsideIs P j (Some m) = P m j.name × (is_some j.opens ≡ true) × (is_bounced j.ending ≡ false)

module _ (gives : Giving) (inside : Name → JobName → List (Name × Value) → Meaning) (instance : JobName) (P : Meaning → JobName → Type 0) (inside_is : (f : Name) (n : JobName) (vs : List (Name × Value)) → P (inside f n vs) n) where
  pub record IsJobAt (n : Name) (s : Step) (w : List Origin) (q : Place) (o : Opened) : Type 0 where
    pub name : o.job.name ≡ spot instance n q
    pub in_instance : o.job.instance ≡ instance
    pub waits : o.job.waits ≡ w
    pub limit : o.job.limit ≡ s.jobs
    pub no_asks : is_bounced o.job.ending ≡ true → o.job.asks ≡ []
    pub inside_it : InsideIs P o.job o.inside
    pub failed : is_failed o.job.ending ≡ (not (is_bounced o.job.ending) && is_none o.job.opens && not (any_right gives o.job.asks))

  module _ (n : Name) (s : Step) (w : List Origin) (q : Place) (vs : List Traced) where
    fate-at : (as' : List Ask) (f : Fate) → FateFits gives f as' → IsJobAt n s w q (with_fate inside s (record (bounced_job instance n s w q vs) { asks = as' }) f)
    fate-at as' (right rs) h = record { name = refl; in_instance = refl; waits = refl; limit = refl; no_asks = λ e. absurd (true≠false (sym e)); inside_it = refl; failed = ap not (sym h) }
    fate-at as' (wrong why) h = record { name = refl; in_instance = refl; waits = refl; limit = refl; no_asks = λ e. absurd (true≠false (sym e)); inside_it = refl; failed = ap not (sym h) }
    fate-at as' (opens f) h = record { name = refl; in_instance = refl; waits = refl; limit = refl; no_asks = λ e. absurd (true≠false (sym e)); inside_it = (inside_is f (spot instance n q) _, refl, refl); failed = refl }

    pub job-at : IsJobAt n s w q (job_on gives inside instance n s w q vs)
    job-at =
        let j = bounced_job instance n s w q vs in
        let ts = tries (map plain j.inputs) (declared_depths s) s.retries 0 s.activities in
        either (IsJobAt n s w q) (list_any (λ v. holds_fault v) vs) (record { job = j; inside = None }) (tried_job gives inside s j)
        (record { name = refl; in_instance = refl; waits = refl; limit = refl; no_asks = λ e. refl; inside_it = refl; failed = refl })
        (fate-at (take_tries gives [] ts).asks (take_tries gives [] ts).fate (taken-fits gives [] ts))

  pub node_job-at : (n : Name) (s : Step) (before : List Origin) (x : Place × Iteration) (o : Opened) → In o (node_jobs gives inside instance n s before x) → IsJobAt n s (note x.1 ++ before) x.0 o
  node_job-at n s before (q, leaf r (job b)) o (inl e) = subst (λ p. IsJobAt n s (r ++ before) q p) (sym e) (job-at n s (r ++ before) q (bound_values s b))
  node_job-at n s before (q, leaf r (job b)) o (inr h) = absurd h
  node_job-at n s before (q, leaf r (passed m e)) o h = absurd h
  node_job-at n s before (q, list r ts) o h = absurd h
