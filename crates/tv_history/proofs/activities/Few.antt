-- A try is of one of its step's activities, which are few.
use Rattle.std.specs.Prelude.{◌≡◌, ℕ, suc, ◌+◌, ◌<◌, ◌≤◌, List, [], ◌∷◌, length, true}
use Rattle.std.proofs.Common.{arith, ap, inl, inr}
use Rattle.tv_lemmas.specs.Members.{In}
use Rattle.tv_lemmas.proofs.Members.{in-append}
use Rattle.tv_lemmas.proofs.Cases.{on_either}
use Rattle.tv_value.specs.Activities.{Activity, service, nested}
use Rattle.tv_value.specs.Values.{Value}
use Rattle.tv_flow.specs.Flows.{Document}
use Rattle.tv_flow.specs.Formed.{is_formed}
use Rattle.tv_gate.specs.Outcomes.{Giving}
use Rattle.tv_dispatch.specs.Jobs.{Ask, ask, tries}
use Rattle.tv_model.specs.instance.Steps.{declared_depths}
use Rattle.tv_model.specs.Jobs.{Job}
use Rattle.tv_model.specs.Meanings.{meaning}
use Rattle.tv_history.proofs.activities.Distinct.{attempts, no-flow, of-attempts, taken-in}
use Rattle.tv_history.proofs.activities.Everywhere.{document-asks}
use Rattle.tv_history.proofs.activities.Read.{few-activities}

-- each is below this number
abbrev pub AreBelow : ℕ → List Ask → Type 0
AreBelow n as' = (a : Ask) → In a as' → a.activity < n

tries-below : (vs : List Value) (ds : List ℕ) (retries k : ℕ) (as' : List Activity) (a : Ask) → In (ask a) (tries vs ds retries k as') → a.activity < k + length as'
tries-below vs ds retries k [] a h = absurd h
tries-below vs ds retries k (nested f ∷ as') a (inl p) = absurd (no-flow a f p)
tries-below vs ds retries k (nested f ∷ as') a (inr h) = one_on (length as') k a.activity (tries-below vs ds retries (suc k) as' a h)
  where
    one_on : (n k x : ℕ) → x < suc k + n → x < k + suc n
    one_on n k x p = omega (arith, p)
tries-below vs ds retries k (service s ∷ as') a h = on_either (in-append (ask a) (attempts vs ds retries s k) (tries vs ds retries (suc k) as') h) (λ q. first (length as') k a.activity (ap (λ (x : Ask). x.activity) (of-attempts vs ds retries s k a q))) (λ q. one_on (length as') k a.activity (tries-below vs ds retries (suc k) as' a q))
  where
    first : (n k x : ℕ) → x ≡ k → x < k + suc n
    first n k x p = omega (arith, p)

    one_on : (n k x : ℕ) → x < suc k + n → x < k + suc n
    one_on n k x p = omega (arith, p)

pub activities-few : (gives : Giving) (d : Document) → is_formed d ≡ true → (j : Job) → In j (meaning gives d).jobs → AreBelow 8 j.asks
activities-few gives d h =
    document-asks gives (λ s. length s.activities ≤ 8) (AreBelow 8) (λ a h. absurd h)
    (λ s vs e a h. most a.activity (length s.activities) (tries-below vs (declared_depths s) s.retries 0 s.activities a (taken-in gives [] (tries vs (declared_depths s) s.retries 0 s.activities) a h)) e)
    d (few-activities d h)
  where
    most : (x n : ℕ) → x < 0 + n → n ≤ 8 → x < 8
    most x n p q = omega (arith, p, q)
