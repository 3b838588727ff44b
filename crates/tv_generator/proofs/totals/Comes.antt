-- Each job of a generated document's run, by what it binds.
use Rattle.std.specs.Prelude.{Bool, List, None, Option, Some, [], cond, codes, false, flat_map, refl, true, ℕ, ◌++◌, ◌∷◌, ◌≡◌}
use Rattle.std.proofs.Common.{ap}
use Rattle.tv_value.specs.Nested.{Place, leaf}
use Rattle.tv_value.specs.Values.{Name, JobName, Scalar, Text, Value, fault, text}
use Rattle.tv_gate.specs.Outcomes.{Giving}
use Rattle.tv_strategy.specs.Origins.{Origin, fixed, from_input}
use Rattle.tv_model.specs.Instances.{job_on}
use Rattle.tv_model.specs.Jobs.{bounced_end, failed_end, good_end}
use Rattle.tv_model.specs.Made.{Meaning, Opened}
use Rattle.tv_model.specs.Meanings.{flow_meaning, jobs_with_inside}
use Rattle.tv_model.specs.Writing.{a}
use Rattle.tv_generator.specs.Formulas.{GivesAsLocals}
use Rattle.tv_generator.specs.Parts.{both_flows, concat_step, fail_step, flaky_step, nested_step}
use Rattle.tv_generator.proofs.totals.Found.{first}
use Rattle.tv_generator.proofs.totals.Jobs.{concat-job, fail-job, flaky-job, marks, tell, upper-job}
use Rattle.tv_generator.proofs.totals.Pairs.{is_true}
use Rattle.tv_generator.proofs.totals.Tallies.{Mark, mark}

-- what a job adds, and what is told of the text or fault that it gives
pub record Comes (u : Opened) (ms : List Mark) (m : Option Text) : Type 0 where
  pub adds : marks u ≡ ms
  pub scalar : Scalar
  pub leaves : first u ≡ leaf tt scalar
  pub tells : tell scalar ≡ m

abbrev pub bounced : List Mark
bounced = (0, bounced_end) ∷ []

abbrev pub pair-adds : Option Text → Option Text → List Mark
pair-adds (Some t) (Some u) = (1, good_end) ∷ []
pair-adds (Some t) None = bounced
pair-adds None m = bounced

abbrev pub pair-gives : Option Text → Option Text → Option Text
pair-gives (Some t) (Some u) = Some (t ++ u)
pair-gives (Some t) None = None
pair-gives None m = None

abbrev pub flaky-adds : Option Text → List Mark
flaky-adds (Some t) = (2, good_end) ∷ []
flaky-adds None = bounced

abbrev pub flaky-gives : Option Text → Option Text
flaky-gives (Some t) = Some t
flaky-gives None = None

abbrev pub fail-adds : Option Text → List Mark
fail-adds (Some t) = (1, cond (is_true t) failed_end good_end) ∷ []
fail-adds None = bounced

abbrev pub fail-gives : Option Text → Option Text
fail-gives (Some t) = cond (is_true t) None (Some t)
fail-gives None = None

-- the job that opens a flow, and the one inside
abbrev pub nested-adds : Option Text → List Mark
nested-adds (Some t) = (0, good_end) ∷ (1, good_end) ∷ []
nested-adds None = bounced

module _ (gives : Giving) (as-locals : GivesAsLocals gives) where
  abbrev pub within : ℕ → Name → JobName → List (Name × Value) → Meaning
  within levels = flow_meaning gives both_flows levels

  module _ (q : Place) (o1 : Origin) where
    pub pair-comes : (s1 : Scalar) (o2 : Origin) (s2 : Scalar) → Comes (job_on gives (within 7) [] (codes "c") concat_step (o1 ∷ o2 ∷ []) q (leaf o1 s1 ∷ leaf o2 s2 ∷ [])) (pair-adds (tell s1) (tell s2)) (pair-gives (tell s1) (tell s2))
    pair-comes (text t) o2 (text u) =
        let e = concat-job gives as-locals (within 7) [] (o1 ∷ o2 ∷ []) q o1 o2 t u in record { adds = ap marks e; scalar = text (t ++ u); leaves = ap first e; tells = refl }
    pair-comes (text t) o2 (fault e) = record { adds = refl; scalar = fault _; leaves = refl; tells = refl }
    pair-comes (fault e) o2 s2 = record { adds = refl; scalar = fault _; leaves = refl; tells = refl }

    pub flaky-comes : (s1 : Scalar) → Comes (job_on gives (within 7) [] (codes "f") flaky_step (o1 ∷ fixed ∷ []) q (leaf o1 s1 ∷ leaf fixed (text (codes "1")) ∷ [])) (flaky-adds (tell s1)) (flaky-gives (tell s1))
    flaky-comes (text t) = let e = flaky-job gives as-locals (within 7) [] (o1 ∷ fixed ∷ []) q o1 t in record { adds = ap marks e; scalar = text t; leaves = ap first e; tells = refl }
    flaky-comes (fault e) = record { adds = refl; scalar = fault _; leaves = refl; tells = refl }

    pub fail-comes : (s1 : Scalar) → Comes (job_on gives (within 7) [] (codes "g") fail_step (o1 ∷ []) q (leaf o1 s1 ∷ [])) (fail-adds (tell s1)) (fail-gives (tell s1))
    fail-comes (text t) = by (is_true t) refl
      where
        by : (c : Bool) → is_true t ≡ c → Comes (job_on gives (within 7) [] (codes "g") fail_step (o1 ∷ []) q (leaf o1 (text t) ∷ [])) ((1, cond c failed_end good_end) ∷ []) (cond c None (Some t))
        by true h = let e = fail-job gives as-locals (within 7) [] (o1 ∷ []) q o1 t true h in record { adds = ap marks e; scalar = fault _; leaves = ap first e; tells = refl }
        by false h = let e = fail-job gives as-locals (within 7) [] (o1 ∷ []) q o1 t false h in record { adds = ap marks e; scalar = text t; leaves = ap first e; tells = refl }
    fail-comes (fault e) = record { adds = refl; scalar = fault _; leaves = refl; tells = refl }

    pub nested-comes : (s1 : Scalar) → marks (job_on gives (within 7) [] (codes "n") nested_step (o1 ∷ []) q (leaf o1 s1 ∷ [])) ≡ nested-adds (tell s1)
    nested-comes (text t) = ap (λ (u : Opened). (0, good_end) ∷ flat_map mark (jobs_with_inside u ++ [])) (upper-job gives as-locals (within 6) ((codes "n", q) ∷ []) (from_input a [] ∷ []) [] (from_input a []) t).1
    nested-comes (fault e) = refl
