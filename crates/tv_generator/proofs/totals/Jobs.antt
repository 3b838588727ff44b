-- What each job of a generated document's run adds to the totals, and what it gives.
use Rattle.std.specs.List.{list_any}
use Rattle.std.specs.Prelude.{Bool, Err, List, None, Ok, Option, Result, Some, [], codes, decimal, false, flat_map, if◌then◌else◌, map, refl, true, ℕ, ◌++◌, ◌∷◌, ◌≡◌}
use Rattle.std.proofs.Common.{ap, ◌∙◌}
use Rattle.tv_value.specs.Nested.{Place, leaf}
use Rattle.tv_value.specs.Values.{JobName, Name, Scalar, Text, Value, fault, holds_fault, text, text_value}
use Rattle.tv_flow.specs.Flows.{Step}
use Rattle.tv_gate.specs.Outcomes.{Giving, bad}
use Rattle.tv_local.specs.Table.{one_text}
use Rattle.tv_dispatch.specs.Jobs.{Ask, Taken, Try, ask, judged, match_result, outcome_of, right, take_tries, tries, wrong}
use Rattle.tv_strategy.specs.Origins.{Origin, Traced, fixed, plain}
use Rattle.tv_model.specs.Instances.{bounced_job, job_on, tried_job, with_fate}
use Rattle.tv_model.specs.Jobs.{Job, good_end}
use Rattle.tv_model.specs.Made.{Meaning, Opened}
use Rattle.tv_model.specs.Meanings.{jobs_with_inside}
use Rattle.tv_model.specs.instance.Steps.{declared_depths}
use Rattle.tv_generator.specs.Parts.{concat_step, fail_step, flaky_step, upper_step}
use Rattle.tv_generator.specs.Formulas.{GivesAsLocals}
use Rattle.tv_generator.proofs.totals.Tallies.{Mark, mark}
use Rattle.tv_generator.proofs.totals.Pairs.{is_true}

-- what a job adds with what stands inside it
abbrev pub marks : Opened → List Mark
marks u = flat_map mark (jobs_with_inside u)

-- a text, or none where a fault stands
abbrev pub tell : Scalar → Option Text
tell (text t) = Some t
tell (fault e) = None

-- ---- jobs by their tries

module _ (gives : Giving) where
  right-try : (why : Text) (t : Ask) (ts : List Try) (vs : List Value) → outcome_of gives t ≡ Ok vs → take_tries gives why (ask t ∷ ts) ≡ record { asks = t ∷ []; fate = right vs }
  right-try why t ts vs e =
      ap (λ (r : Result (List Value) Text). match_result r (λ us. record { asks = t ∷ []; fate = right us }) (λ reason. let rest = take_tries gives reason ts in record { asks = t ∷ rest.asks; fate = rest.fate })) e

  wrong-try : (why reason : Text) (t : Ask) (ts : List Try) (rest : Taken) → outcome_of gives t ≡ Err reason → take_tries gives reason ts ≡ rest → take_tries gives why (ask t ∷ ts) ≡ record { asks = t ∷ rest.asks; fate = rest.fate }
  wrong-try why reason t ts rest e f =
      ap (λ (r : Result (List Value) Text). match_result r (λ us. record { asks = t ∷ []; fate = right us }) (λ again. let more = take_tries gives again ts in record { asks = t ∷ more.asks; fate = more.fate })) e
      ∙ ap (λ (more : Taken). record { asks = t ∷ more.asks; fate = more.fate }) f

  module _ (inside : Name → JobName → List (Name × Value) → Meaning) (I : JobName) (n : Name) (s : Step) (w : List Origin) (q : Place) (vs : List Traced) where
    abbrev pub none_yet : Job
    none_yet = bounced_job I n s w q vs

    -- a job whose inputs hold no fault is as its tries come out
    tried-job : (t : Taken) → list_any (λ v. holds_fault v) vs ≡ false → take_tries gives [] (tries (map plain vs) (declared_depths s) s.retries 0 s.activities) ≡ t → job_on gives inside I n s w q vs ≡ with_fate inside s (record none_yet { asks = t.asks }) t.fate
    tried-job t e f =
        ap (λ (c : Bool). if c then record { job = none_yet; inside = None } else tried_job gives inside s none_yet) e
        ∙ ap (λ (u : Taken). with_fate inside s (record none_yet { asks = u.asks }) u.fate) f

-- ---- the steps

module _ (gives : Giving) (as-locals : GivesAsLocals gives) where
  module _ (inside : Name → JobName → List (Name × Value) → Meaning) (I : JobName) (w : List Origin) (q : Place) where
    concat-taken : (t u : Text) → take_tries gives [] (tries (text_value t ∷ text_value u ∷ []) (0 ∷ []) 0 0 concat_step.activities) ≡ record { asks = record { service = codes "concat"; inputs = text_value t ∷ text_value u ∷ []; outputs = 0 ∷ []; activity = 0; attempt = 0 } ∷ []; fate = right (text_value (t ++ u) ∷ []) }
    concat-taken t u = right-try gives [] _ [] (text_value (t ++ u) ∷ []) (ap (judged (0 ∷ [])) (as-locals.concat (text_value t ∷ text_value u ∷ []) 0))

    pub concat-job : (o1 o2 : Origin) (t u : Text) → job_on gives inside I (codes "c") concat_step w q (leaf o1 (text t) ∷ leaf o2 (text u) ∷ []) ≡ record {
      job = record (none_yet gives inside I (codes "c") concat_step w q (leaf o1 (text t) ∷ leaf o2 (text u) ∷ [])) {
        asks = record { service = codes "concat"; inputs = text_value t ∷ text_value u ∷ []; outputs = 0 ∷ []; activity = 0; attempt = 0 } ∷ [];
        ending = good_end;
        result = text_value (t ++ u) ∷ [];
      };
      inside = None;
    }
    concat-job o1 o2 t u = tried-job gives inside I (codes "c") concat_step w q (leaf o1 (text t) ∷ leaf o2 (text u) ∷ []) _ refl (concat-taken t u)

    -- the first attempt isn't right, and the second is
    abbrev pub flaky-ask : Text → ℕ → Ask
    flaky-ask t k = record { service = codes "flaky"; inputs = text_value t ∷ text_value (codes "1") ∷ []; outputs = 0 ∷ []; activity = 0; attempt = k }

    flaky-taken : (t : Text) → take_tries gives [] (tries (text_value t ∷ text_value (codes "1") ∷ []) (0 ∷ []) 1 0 flaky_step.activities) ≡ record { asks = flaky-ask t 0 ∷ flaky-ask t 1 ∷ []; fate = right (text_value t ∷ []) }
    flaky-taken t =
        wrong-try gives [] (codes "flaky attempt " ++ decimal 0) (flaky-ask t 0) (ask (flaky-ask t 1) ∷ []) (record { asks = flaky-ask t 1 ∷ []; fate = right (text_value t ∷ []) })
        (ap (judged (0 ∷ [])) (as-locals.flaky (text_value t ∷ text_value (codes "1") ∷ []) 0))
        (right-try gives (codes "flaky attempt " ++ decimal 0) (flaky-ask t 1) [] (text_value t ∷ []) (ap (judged (0 ∷ [])) (as-locals.flaky (text_value t ∷ text_value (codes "1") ∷ []) 1)))

    pub flaky-job : (o1 : Origin) (t : Text) → job_on gives inside I (codes "f") flaky_step w q (leaf o1 (text t) ∷ leaf fixed (text (codes "1")) ∷ []) ≡ record {
      job = record (none_yet gives inside I (codes "f") flaky_step w q (leaf o1 (text t) ∷ leaf fixed (text (codes "1")) ∷ [])) {
        asks = flaky-ask t 0 ∷ flaky-ask t 1 ∷ [];
        ending = good_end;
        result = text_value t ∷ [];
      };
      inside = None;
    }
    flaky-job o1 t = tried-job gives inside I (codes "f") flaky_step w q (leaf o1 (text t) ∷ leaf fixed (text (codes "1")) ∷ []) _ refl (flaky-taken t)

    -- the text `true` fails
    abbrev pub fail-ask : Text → Ask
    fail-ask t = record { service = codes "fail_if"; inputs = text_value t ∷ []; outputs = 0 ∷ []; activity = 0; attempt = 0 }

    abbrev pub fail-taken : Bool → Text → Taken
    fail-taken true t = record { asks = fail-ask t ∷ []; fate = wrong (codes "told to fail") }
    fail-taken false t = record { asks = fail-ask t ∷ []; fate = right (text_value t ∷ []) }

    fail-tried : (t : Text) (c : Bool) → is_true t ≡ c → take_tries gives [] (tries (text_value t ∷ []) (0 ∷ []) 0 0 fail_step.activities) ≡ fail-taken c t
    fail-tried t true e = wrong-try gives [] (codes "told to fail") (fail-ask t) [] _ (ap (judged (0 ∷ [])) (as-locals.fail_if (text_value t ∷ []) 0 ∙ ap (λ (c : Bool). if c then bad (codes "told to fail") else one_text t) e)) refl
    fail-tried t false e = right-try gives [] (fail-ask t) [] (text_value t ∷ []) (ap (judged (0 ∷ [])) (as-locals.fail_if (text_value t ∷ []) 0 ∙ ap (λ (c : Bool). if c then bad (codes "told to fail") else one_text t) e))

    pub fail-job : (o1 : Origin) (t : Text) (c : Bool) → is_true t ≡ c → job_on gives inside I (codes "g") fail_step w q (leaf o1 (text t) ∷ []) ≡ with_fate inside fail_step (record (none_yet gives inside I (codes "g") fail_step w q (leaf o1 (text t) ∷ [])) { asks = (fail-taken c t).asks }) (fail-taken c t).fate
    fail-job o1 t c e = tried-job gives inside I (codes "g") fail_step w q (leaf o1 (text t) ∷ []) (fail-taken c t) refl (fail-tried t c e)

    abbrev pub upper-ask : Text → Ask
    upper-ask t = record { service = codes "upper"; inputs = text_value t ∷ []; outputs = 0 ∷ []; activity = 0; attempt = 0 }

    pub upper-job : (o1 : Origin) (t : Text) → (rs : List Value) × (job_on gives inside I (codes "u") upper_step w q (leaf o1 (text t) ∷ []) ≡ record {
      job = record (none_yet gives inside I (codes "u") upper_step w q (leaf o1 (text t) ∷ [])) { asks = upper-ask t ∷ []; ending = good_end; result = rs };
      inside = None;
    })
    upper-job o1 t = (_, tried-job gives inside I (codes "u") upper_step w q (leaf o1 (text t) ∷ []) _ refl (right-try gives [] (upper-ask t) [] _ (ap (judged (0 ∷ [])) (as-locals.upper (text_value t ∷ []) 0))))
