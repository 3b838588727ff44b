-- Where every step has an activity, every job that isn't bounced has a try or opens a flow.
use Rattle.std.specs.Prelude.{◌≡◌, refl, ℕ, suc, ◌≤◌, List, [], ◌∷◌, ◌++◌, map, length, Bool, true, false, None, is_some, Result, Ok, Err, if◌then◌else◌}
use Rattle.std.specs.List.{list_any, range_with_len}
use Rattle.std.proofs.Common.{arith, sym, ap}
use Rattle.tv_value.specs.Activities.{Activity, service, nested}
use Rattle.tv_value.specs.Nested.{Place}
use Rattle.tv_value.specs.Values.{Name, JobName, Text, Value, holds_fault}
use Rattle.tv_flow.specs.Flows.{Document, Step}
use Rattle.tv_strategy.specs.Origins.{Origin, Traced, plain}
use Rattle.tv_gate.specs.Outcomes.{Giving}
use Rattle.tv_dispatch.specs.Jobs.{Ask, outcome_of, Try, ask, tries, Fate, right, opens, wrong, Taken, take_tries, match_result}
use Rattle.tv_model.specs.instance.Steps.{declared_depths}
use Rattle.tv_model.specs.Instances.{with_fate, bounced_job, tried_job, job_on}
use Rattle.tv_model.specs.Jobs.{Job}
use Rattle.tv_model.specs.Made.{Meaning}
use Rattle.tv_model.specs.Meanings.{meaning}
use Rattle.tv_model.specs.Turns.{is_bounced}
use Rattle.tv_history.specs.Alone.{HaveTries}
use Rattle.tv_model.proofs.Tests.{true≠false}
use Rattle.tv_history.specs.activities.Agreed.{HasActivities}
use Rattle.tv_history.proofs.activities.Everywhere.{document-has}

abbrev opens_flow : Fate → Bool
opens_flow (right vs) = false
opens_flow (opens f) = true
opens_flow (wrong why) = false

abbrev is_some_list : {A : Type 0} → List A → Bool
is_some_list [] = false
is_some_list (x ∷ xs) = true

-- no try is taken only where a flow is opened
abbrev HasTry : Taken → Type 0
HasTry t = t.asks ≡ [] → opens_flow t.fate ≡ true

taken-try : (gives : Giving) (why : Text) (vs : List Value) (ds : List ℕ) (retries k : ℕ) (as' : List Activity) → 1 ≤ length as' → HasTry (take_tries gives why (tries vs ds retries k as'))
taken-try gives why vs ds retries k [] h = absurd (omega (arith, h))
taken-try gives why vs ds retries k (nested f ∷ as') h = λ e. refl
taken-try gives why vs ds retries k (service s ∷ as') h = λ e. absurd (asked (outcome_of gives first) e)
  where
    first : Ask
    first = record { service = s; inputs = vs; outputs = ds; activity = k; attempt = 0 }

    later : List Try
    later = map (λ n. ask (record { service = s; inputs = vs; outputs = ds; activity = k; attempt = n })) (range_with_len 1 retries) ++ tries vs ds retries (suc k) as'

    asked : (r : Result (List Value) Text) → (match_result {C = Taken} r (λ us. record { asks = first ∷ []; fate = right us }) (λ reason. record { asks = first ∷ (take_tries gives reason later).asks; fate = (take_tries gives reason later).fate })).asks ≡ [] → ⊥
    asked (Ok us) e = true≠false (ap is_some_list e)
    asked (Err reason) e = true≠false (ap is_some_list e)

abbrev IsTried : Job → Type 0
IsTried j = is_bounced j.ending ≡ false → j.asks ≡ [] → is_some j.opens ≡ true

module _ (gives : Giving) (inside : Name → JobName → List (Name × Value) → Meaning) (I : JobName) where
  fate-tried : (s : Step) (j : Job) (as' : List Ask) (f : Fate) → (as' ≡ [] → opens_flow f ≡ true) → IsTried (with_fate inside s (record j { asks = as' }) f).job
  fate-tried s j as' (right vs) h = λ b e. absurd (true≠false (sym (h e)))
  fate-tried s j as' (opens f) h = λ b e. refl
  fate-tried s j as' (wrong why) h = λ b e. absurd (true≠false (sym (h e)))

  job-tried : (c : Name) (s : Step) (waits : List Origin) (q : Place) (inputs : List Traced) → 1 ≤ length s.activities → IsTried (job_on gives inside I c s waits q inputs).job
  job-tried c s waits q inputs h = by (list_any (λ z. holds_fault z) inputs)
    where
      j : Job
      j = bounced_job I c s waits q inputs

      t : Taken
      t = take_tries gives [] (tries (map plain inputs) (declared_depths s) s.retries 0 s.activities)

      by : (z : Bool) → IsTried (if z then record { job = j; inside = None } else tried_job gives inside s j).job
      by true = λ b. absurd (true≠false b)
      by false = fate-tried s j t.asks t.fate (taken-try gives [] (map plain inputs) (declared_depths s) s.retries 0 s.activities h)

pub document-tried : (gives : Giving) (d : Document) → HasActivities d → HaveTries (meaning gives d).jobs
document-tried gives d h = document-has gives (λ s. 1 ≤ length s.activities) IsTried (λ inside I c s waits q inputs k. job-tried gives inside I c s waits q inputs k) d h.activities
