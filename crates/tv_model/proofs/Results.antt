-- A job gives each output in its declared depth, however it comes out.
use Rattle.std.specs.Prelude.{◌≡◌, refl, ℕ, zero, suc, List, [], ◌∷◌, ◌++◌, map, length, Bool, true, false, ◌==◌, Option, Some, None, Result, Ok, Err, unwrap_or, codes, decimal, if◌then◌else◌}
use Rattle.std.specs.List.{list_any, range_with_len}
use Rattle.std.proofs.Common.{arith, sym, ap, subst, eqb-true}
use Rattle.tv_lemmas.specs.Members.{Each}
use Rattle.tv_value.specs.Nested.{leaf, list, Trees, no_trees, tree, Place, map_trees}
use Rattle.tv_value.specs.Values.{Text, Name, JobName, Scalar, Value, HasDepth, AllHaveDepth, has_depth, holds_fault}
use Rattle.tv_value.specs.Orders.{same_name, named}
use Rattle.tv_value.specs.Activities.{Activity, service, nested}
use Rattle.tv_flow.specs.Flows.{StepInput, Step, Flow}
use Rattle.tv_strategy.specs.Origins.{Origin, Traced, plain}
use Rattle.tv_gate.specs.Outcomes.{Outcome, good, bad, Giving}
use Rattle.tv_dispatch.specs.Jobs.{value_complaint, or_else, first_complaint, ok_unless, judged, Ask, outcome_of, Try, ask, open_flow, tries, Fate, right, opens, wrong, Taken, take_tries, match_result, error_results}
use Rattle.tv_model.specs.Made.{Meaning, Opened}
use Rattle.tv_model.specs.instance.Steps.{declared_depths}
use Rattle.tv_model.specs.Instances.{zip_names, with_fate, bounced_job, tried_job, job_on}
use Rattle.tv_model.specs.Agreeing.{FindThemselves, InputsHave, ActivityAgrees, ActivitiesAgree, ActivitiesNest, NestsWithin, output_depths}
use Rattle.tv_value.proofs.DepthLemmas.{test-decides}
use Rattle.tv_strategy.proofs.Sources.{each-append}
use Rattle.tv_strategy.proofs.Each.{each-all}
use Rattle.tv_model.proofs.Fed.{either, each-of_map}
use Rattle.tv_model.proofs.Binds.{HaveTheseDepths}

-- ---- the judgment

no-complaint : (k d : ℕ) (v : Value) → value_complaint k d v ≡ None → HasDepth v d
no-complaint k d v e = by (holds_fault v) (has_depth v d) refl e
  where
    by : (a b : Bool) → has_depth v d ≡ b → (if a then Some (codes "outcome value " ++ decimal k ++ codes " holds an error") else (if b then None else Some (codes "outcome value " ++ decimal k ++ codes " lacks depth " ++ decimal d))) ≡ None → HasDepth v d
    by true b q f = cc
    by false true q f = (test-decides v d).0 q
    by false false q f = cc

none-parts : (a b : Option Text) → or_else a b ≡ None → (a ≡ None) × (b ≡ None)
none-parts None b e = (refl, e)
none-parts (Some t) b e = cc

no-complaints : (k : ℕ) (ds : List ℕ) (vs : List Value) → length vs ≡ length ds → first_complaint k ds vs ≡ None → HaveTheseDepths ds vs
no-complaints k [] [] l e = tt
no-complaints k [] (v ∷ vs) l e = omega (arith, l)
no-complaints k (d ∷ ds) [] l e = omega (arith, l)
no-complaints k (d ∷ ds) (v ∷ vs) l e =
    let p = none-parts (value_complaint k d v) (first_complaint (suc k) ds vs) e in (no-complaint k d v p.0, no-complaints (suc k) ds vs (omega (arith, l)) p.1)

pub judged-depths : (ds : List ℕ) (o : Outcome) (vs : List Value) → judged ds o ≡ Ok vs → HaveTheseDepths ds vs
judged-depths ds (bad why) vs e = cc
judged-depths ds (good ws) vs e = by (length ws == length ds) refl (first_complaint 1 ds ws) refl e
  where
    by : (b : Bool) → (length ws == length ds) ≡ b → (c : Option Text) → first_complaint 1 ds ws ≡ c → (if b then ok_unless ws c else Err (codes "outcome has " ++ decimal (length ws) ++ codes " values")) ≡ Ok vs → HaveTheseDepths ds vs
    by true q None f e = let same : ws ≡ vs = cc in subst (HaveTheseDepths ds) same (no-complaints 1 ds ws (eqb-true (length ws) (length ds) q) f)
    by true q (Some t) f e = cc
    by false q c f e = cc

-- ---- the tries

module _ (ds : List ℕ) (Q : Name → Type 0) where
  abbrev TryHas : Try → Type 0
  TryHas (ask a) = a.outputs ≡ ds
  TryHas (open_flow f) = Q f

  abbrev pub FateHas : Fate → Type 0
  FateHas (right vs) = HaveTheseDepths ds vs
  FateHas (opens f) = Q f
  FateHas (wrong why) = Unit {0}

  tries-have : (vs : List Value) (retries k : ℕ) (as' : List Activity) → ActivitiesNest Q as' → Each TryHas (tries vs ds retries k as')
  tries-have vs retries k [] h = tt
  tries-have vs retries k (service s ∷ as') h =
      each-append TryHas (map (λ n. ask (record { service = s; inputs = vs; outputs = ds; activity = k; attempt = n })) (range_with_len 0 (suc retries))) (tries vs ds retries (suc k) as')
      (each-of_map (λ n. Unit {0}) TryHas (λ n. ask (record { service = s; inputs = vs; outputs = ds; activity = k; attempt = n })) (λ n _. refl) (range_with_len 0 (suc retries)) (each-all (λ n. Unit {0}) (λ n. tt) (range_with_len 0 (suc retries))))
      (tries-have vs retries (suc k) as' h)
  tries-have vs retries k (nested f ∷ as') h = (h.0, tries-have vs retries (suc k) as' h.1)

  taken-has : (gives : Giving) (why : Text) (ts : List Try) → Each TryHas ts → FateHas (take_tries gives why ts).fate
  taken-has gives why [] h = tt
  taken-has gives why (open_flow f ∷ ts) h = h.0
  taken-has gives why (ask a ∷ ts) h = by (outcome_of gives a) refl (λ w. taken-has gives w ts h.1)
    where
      by : (r : Result (List Value) Text) → outcome_of gives a ≡ r → ((w : Text) → FateHas (take_tries gives w ts).fate) → FateHas (match_result {C = Taken} r (λ vs. record { asks = a ∷ []; fate = right vs }) (λ reason. record { asks = a ∷ (take_tries gives reason ts).asks; fate = (take_tries gives reason ts).fate })).fate
      by (Ok vs) e rec = subst (λ l. HaveTheseDepths l vs) h.0 (judged-depths a.outputs (gives a.service a.inputs a.attempt) vs e)
      by (Err w) e rec = rec w

-- ---- the inputs and outputs of a flow that is opened

mutual
  pub plain-depth : (v : Traced) (d : ℕ) → HasDepth v d → HasDepth (plain v) d
  plain-depth (leaf o a) d h = h
  plain-depth (list o vs) zero h = absurd h
  plain-depth (list o vs) (suc d) h = all_plain-depth vs d h

  all_plain-depth : (vs : Trees Origin Scalar) (d : ℕ) → AllHaveDepth vs d → AllHaveDepth (map_trees (λ o. tt {0}) (λ (a : Scalar). a) vs) d
  all_plain-depth no_trees d h = tt
  all_plain-depth (tree v vs) d h = (plain-depth v d h.0, all_plain-depth vs d h.1)

plain-outputs : (ds : List ℕ) (os : List (Name × Traced)) → HaveTheseDepths ds (map (λ o. o.1) os) → HaveTheseDepths ds (map (λ o. plain o.1) os)
plain-outputs [] [] h = tt
plain-outputs [] (o ∷ os) h = absurd h
plain-outputs (d ∷ ds) [] h = absurd h
plain-outputs (d ∷ ds) (o ∷ os) h = (plain-depth o.1 d h.0, plain-outputs ds os h.1)

abbrev pub some_or : {A : Type 0} → A → Option A → A
some_or a None = a
some_or a (Some b) = b

zip-finds : (is : List (Name × StepInput)) (vs : List Traced) → HaveTheseDepths (map (λ i. i.1.depth) is) vs → (p : Name) (x : StepInput) → named p is ≡ Some x → HasDepth (unwrap_or (named p (zip_names is vs)) (list tt no_trees)) x.depth
zip-finds [] vs h p x e = cc
zip-finds (i ∷ is) [] h p x e = absurd h
zip-finds (i ∷ is) (v ∷ vs) h p x e = by (same_name p i.0) e (λ k. zip-finds is vs h.1 p x k)
  where
    by : (b : Bool) → (if b then Some i.1 else named p is) ≡ Some x → (named p is ≡ Some x → HasDepth (unwrap_or (named p (zip_names is vs)) (list tt no_trees)) x.depth) → HasDepth (unwrap_or (if b then Some (plain v) else named p (zip_names is vs)) (list tt no_trees)) x.depth
    by true q rec = subst (λ (y : StepInput). HasDepth (plain v) y.depth) (ap (some_or i.1) q) (plain-depth v i.1.depth h.0)
    by false q rec = rec q

-- the inputs of an opened flow have the depths that the step declares
pub zip-have : (all : List (Name × StepInput)) (vs : List Traced) → HaveTheseDepths (map (λ i. i.1.depth) all) vs → (is : List (Name × StepInput)) → FindThemselves all is → InputsHave (map (λ i. (i.0, i.1.depth)) is) (zip_names all vs)
zip-have all vs h [] f = tt
zip-have all vs h (i ∷ is) f = (zip-finds all vs h i.0 i.1 f.0, zip-have all vs h is f.1)

pub errors-have : (n : JobName) (why : Text) (from : List JobName) (ds : List ℕ) → HaveTheseDepths ds (error_results n why from ds)
errors-have n why from [] = tt
errors-have n why from (d ∷ ds) = (refl, errors-have n why from ds)

-- ---- one job

-- P holds of the meaning inside, where there is one
abbrev pub InsideHas : (Meaning → Type 0) → Option Meaning → Type 0
InsideHas P None = Unit {0}
InsideHas P (Some m) = P m

-- a flow that nests at most k levels, on inputs of its depths, has P, and outputs of its depths
abbrev pub Delivers : List (Name × Flow) → (Meaning → Type 0) → (Name → JobName → List (Name × Value) → Meaning) → ℕ → Type 0
Delivers flows P inside k =
    (f : Name) (flow : Flow) → named f flows ≡ Some flow → NestsWithin flows k f → (n : JobName) (vs : List (Name × Value)) → InputsHave flow.inputs vs → P (inside f n vs) × HaveTheseDepths (output_depths flow) (map (λ o. o.1) (inside f n vs).outputs)

module _ (gives : Giving) (inside : Name → JobName → List (Name × Value) → Meaning) (I : JobName) (flows : List (Name × Flow)) (P : Meaning → Type 0) (k : ℕ) (inside_is : Delivers flows P inside k) where
  abbrev CanOpen : Step → Name → Type 0
  CanOpen s f = ActivityAgrees flows s (nested f) × NestsWithin flows k f

  both : (s : Step) (as' : List Activity) → ActivitiesAgree flows s as' → ActivitiesNest (NestsWithin flows k) as' → ActivitiesNest (CanOpen s) as'
  both s [] a n = tt
  both s (service x ∷ as') a n = both s as' a.1 n
  both s (nested f ∷ as') a n = ((a.0, n.0), both s as' a.1 n.1)

  pub record IsFit (s : Step) (n : Name) (o : Opened) : Type 0 where
    pub step : o.job.step ≡ n
    pub inputs : HaveTheseDepths (map (λ i. i.1.depth) s.inputs) o.job.inputs
    pub result : HaveTheseDepths (declared_depths s) o.job.result
    pub inside_it : InsideHas P o.inside

  module _ (n : Name) (s : Step) (w : List Origin) (q : Place) (vs : List Traced) (once : FindThemselves s.inputs s.inputs) (fit : HaveTheseDepths (map (λ i. i.1.depth) s.inputs) vs) where
    fate-fit : (as' : List Ask) (f : Fate) → FateHas (declared_depths s) (CanOpen s) f → IsFit s n (with_fate inside s (record (bounced_job I n s w q vs) { asks = as' }) f)
    fate-fit as' (right rs) h = record { step = refl; inputs = fit; result = h; inside_it = tt }
    fate-fit as' (wrong why) h = record { step = refl; inputs = fit; result = errors-have _ why [] (declared_depths s); inside_it = tt }
    fate-fit as' (opens f) h =
        let a = h.0 in
        let r = inside_is f a.flow a.is_flow h.1 (bounced_job I n s w q vs).name (zip_names s.inputs vs) (subst (λ l. InputsHave l (zip_names s.inputs vs)) (sym a.inputs) (zip-have s.inputs vs fit s.inputs once)) in
        record { step = refl; inputs = fit; result = plain-outputs (declared_depths s) (inside f (bounced_job I n s w q vs).name (zip_names s.inputs vs)).outputs (subst (λ l. HaveTheseDepths l (map (λ o. o.1) (inside f (bounced_job I n s w q vs).name (zip_names s.inputs vs)).outputs)) a.outputs r.1); inside_it = r.0 }

    pub job-fit : ActivitiesAgree flows s s.activities → ActivitiesNest (NestsWithin flows k) s.activities → IsFit s n (job_on gives inside I n s w q vs)
    job-fit a b =
        let j = bounced_job I n s w q vs in
        let ts = tries (map plain j.inputs) (declared_depths s) s.retries 0 s.activities in
        either (IsFit s n) (list_any (λ v. holds_fault v) vs) (record { job = j; inside = None }) (tried_job gives inside s j)
        (record { step = refl; inputs = fit; result = errors-have j.name (codes "bounced") _ (declared_depths s); inside_it = tt })
        (fate-fit (take_tries gives [] ts).asks (take_tries gives [] ts).fate (taken-has (declared_depths s) (CanOpen s) gives [] ts (tries-have (declared_depths s) (CanOpen s) (map plain j.inputs) s.retries 0 s.activities (both s s.activities a b))))
