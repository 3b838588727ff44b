-- The jobs of one instance stand in the meaning as their steps and places say.
use Rattle.std.specs.Prelude.{◌≡◌, refl, ℕ, zero, suc, ◌⊎◌, List, [], ◌∷◌, ◌++◌, Bool, true, false, if◌then◌else◌, Option, Some, None}
use Rattle.std.specs.Option.{option_map_or}
use Rattle.std.proofs.Common.{sym, ap, subst, ◌∙◌, inl, inr}
use Rattle.tv_lemmas.specs.Members.{In}
use Rattle.tv_lemmas.proofs.Cases.{on_either}
use Rattle.tv_value.specs.Nested.{Place}
use Rattle.tv_value.specs.Orders.{named}
use Rattle.tv_value.specs.Values.{JobName, Name}
use Rattle.tv_gate.specs.Outcomes.{Giving}
use Rattle.tv_flow.specs.Flows.{Document, Flow, Step}
use Rattle.tv_model.specs.instance.Ranks.{ranked}
use Rattle.tv_model.specs.Jobs.{Job}
use Rattle.tv_model.specs.Meanings.{meaning, nesting_limit}
use Rattle.tv_model.proofs.Tests.{true≠false}
use Rattle.tv_model.proofs.Sound.{cancel, first_of}
use Rattle.tv_history.proofs.OneWorker.{Before, one-first}
use Rattle.tv_model.specs.JobOrder.{job_before, names_before, step_flow, same_spot, spot_before, steps_at, steps_in}
use Rattle.tv_history.proofs.OrderLemmas.{jobs-in_order}
use Rattle.tv_history.proofs.Strict.{pair-before, same-spots, spot-itself, spot-strict}

-- within an instance job order is that of spots, or the spots are the same
pub spots-of : (flows : List (Name × Flow)) (k : ℕ) (f : Name) (I : JobName) (x y : Name × Place) → job_before flows k f (I ++ x ∷ []) (I ++ y ∷ []) ≡ true → (x ≡ y) ⊎ (spot_before (steps_at flows k f I) x y ≡ true)
spots-of flows zero f I x y h = absurd (true≠false (sym h))
spots-of flows (suc k) f I x y h = by (named f flows) h I refl (λ g J e. spots-of flows k g J x y e)
  where
    own : (steps : List (Name × Step)) (b : Bool) → same_spot x y ≡ b → (if b then option_map_or (λ g. job_before flows k g [] []) (step_flow steps x.0) false else spot_before steps x y) ≡ true → (x ≡ y) ⊎ (spot_before steps x y ≡ true)
    own steps true e q = inl (same-spots x y e)
    own steps false e q = inr q

    inner : (J : JobName) (o : Option Name) → option_map_or (λ g. job_before flows k g (J ++ x ∷ []) (J ++ y ∷ [])) o false ≡ true → ((g : Name) (J : JobName) → job_before flows k g (J ++ x ∷ []) (J ++ y ∷ []) ≡ true → (x ≡ y) ⊎ (spot_before (steps_at flows k g J) x y ≡ true)) → (x ≡ y) ⊎ (spot_before (option_map_or (λ g. steps_at flows k g J) o []) x y ≡ true)
    inner J None q rec = absurd (true≠false (sym q))
    inner J (Some g) q rec = rec g J q

    deeper : (steps : List (Name × Step)) (z : Name × Place) (J : JobName) (b : Bool) → b ≡ true → (if b then option_map_or (λ g. job_before flows k g (J ++ x ∷ []) (J ++ y ∷ [])) (step_flow steps z.0) false else spot_before steps z z) ≡ true → option_map_or (λ g. job_before flows k g (J ++ x ∷ []) (J ++ y ∷ [])) (step_flow steps z.0) false ≡ true
    deeper steps z J true e q = q
    deeper steps z J false e q = absurd (true≠false (sym e))

    by : (o : Option Flow) → option_map_or (λ (fl : Flow). names_before (job_before flows k) (ranked fl.steps) (I ++ x ∷ []) (I ++ y ∷ [])) o false ≡ true → (J : JobName) → I ≡ J → ((g : Name) (J : JobName) → job_before flows k g (J ++ x ∷ []) (J ++ y ∷ []) ≡ true → (x ≡ y) ⊎ (spot_before (steps_at flows k g J) x y ≡ true)) → (x ≡ y) ⊎ (spot_before (option_map_or (λ (fl : Flow). steps_in (steps_at flows k) (ranked fl.steps) I) o []) x y ≡ true)
    by None q J e rec = absurd (true≠false (sym q))
    by (Some fl) q [] e rec = subst (λ l. (x ≡ y) ⊎ (spot_before (steps_in (steps_at flows k) (ranked fl.steps) l) x y ≡ true)) (sym e) (own (ranked fl.steps) (same_spot x y) refl (subst (λ l. names_before (job_before flows k) (ranked fl.steps) (l ++ x ∷ []) (l ++ y ∷ []) ≡ true) e q))
    by (Some fl) q (z ∷ J) e rec =
        subst (λ l. (x ≡ y) ⊎ (spot_before (steps_in (steps_at flows k) (ranked fl.steps) l) x y ≡ true)) (sym e)
        (inner J (step_flow (ranked fl.steps) z.0) (deeper (ranked fl.steps) z J (same_spot z z) (spot-itself z) (subst (λ l. names_before (job_before flows k) (ranked fl.steps) (l ++ x ∷ []) (l ++ y ∷ []) ≡ true) e q)) rec)

-- the order in an instance
pub instance-order : (gives : Giving) (d : Document) (I : JobName) (j k : Job) → In j (meaning gives d).jobs → In k (meaning gives d).jobs → (x y : Name × Place) → j.name ≡ I ++ x ∷ [] → k.name ≡ I ++ y ∷ [] → spot_before (steps_at d.flows nesting_limit d.main I) x y ≡ true → Before j k (meaning gives d).jobs
instance-order gives d I j k i h x y e f b = by (one-first (meaning gives d).jobs j k i h)
  where
    steps : List (Name × Step)
    steps = steps_at d.flows nesting_limit d.main I

    itself : x ≡ y → ⊥
    itself q = spot-strict steps x x (subst (λ z. spot_before steps x z ≡ true) (sym q) b) (subst (λ z. spot_before steps x z ≡ true) (sym q) b)

    by : (j ≡ k) ⊎ (Before j k (meaning gives d).jobs ⊎ Before k j (meaning gives d).jobs) → Before j k (meaning gives d).jobs
    by (inl q) = absurd (itself (ap (first_of x) (cancel I (x ∷ []) (y ∷ []) (sym e ∙ ap (λ (z : Job). z.name) q ∙ f))))
    by (inr (inl q)) = q
    by (inr (inr q)) =
        let p = pair-before (λ (a b : Job). job_before d.flows nesting_limit d.main a.name b.name ≡ true) (meaning gives d).jobs (jobs-in_order gives d) k j q in
        absurd (on_either (spots-of d.flows nesting_limit d.main I y x (subst (λ n. job_before d.flows nesting_limit d.main n (I ++ x ∷ []) ≡ true) f (subst (λ n. job_before d.flows nesting_limit d.main k.name n ≡ true) e p))) (λ q. itself (sym q)) (λ q. spot-strict steps x y b q))
