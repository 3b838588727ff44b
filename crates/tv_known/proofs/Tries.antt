-- No two asks of a job are of one activity and attempt.
use Rattle.std.specs.List.{range_with_len}
use Rattle.std.specs.Prelude.{◌≡◌, ℕ, zero, suc, ◌⊎◌, ◌+◌, ◌++◌, ◌≤◌, List, [], ◌∷◌, map, Result, Ok, Err}
use Rattle.std.proofs.Common.{arith, ap, inl, inr}
use Rattle.tv_lemmas.specs.Members.{In}
use Rattle.tv_lemmas.proofs.Members.{in-append, of-map}
use Rattle.tv_value.specs.Activities.{Activity, nested, service}
use Rattle.tv_value.specs.Values.{Name, Text, Value}
use Rattle.tv_gate.specs.Outcomes.{Giving}
use Rattle.tv_flow.specs.Flows.{Document}
use Rattle.tv_strategy.proofs.Each.{each-all}
use Rattle.tv_dispatch.specs.Jobs.{Ask, Try, ask, open_flow, outcome_of, take_tries, tries}
use Rattle.tv_model.specs.instance.Steps.{declared_depths}
use Rattle.tv_model.specs.JobOrder.{Apart}
use Rattle.tv_model.specs.Jobs.{Job}
use Rattle.tv_model.specs.Meanings.{meaning}
use Rattle.tv_history.proofs.activities.Distinct.{attempts, no-flow, of-attempts, one_ask, taken-in, taken_by}
use Rattle.tv_history.proofs.activities.Everywhere.{document-asks}

abbrev pub ask_named : Ask → ℕ × ℕ
ask_named a = (a.activity, a.attempt)

-- no ask is followed by another of its activity and attempt
abbrev AreOnce : List Try → Type 0
AreOnce [] = Unit {0}
AreOnce (open_flow f ∷ ts) = AreOnce ts
AreOnce (ask a ∷ ts) = ((b : Ask) → In (ask b) ts → ask_named b ≡ ask_named a → ⊥) × AreOnce ts

taken-once : (gives : Giving) (why : Text) (ts : List Try) → AreOnce ts → Apart ask_named (take_tries gives why ts).asks
taken-once gives why [] h = tt
taken-once gives why (open_flow f ∷ ts) h = tt
taken-once gives why (ask a ∷ ts) h = by (outcome_of gives a) (λ w. taken-once gives w ts h.1)
  where
    by : (r : Result (List Value) Text) → ((w : Text) → Apart ask_named (take_tries gives w ts).asks) → Apart ask_named (taken_by gives a ts r).asks
    by (Ok vs) rec = (λ b i. absurd i, tt)
    by (Err w) rec = (λ b i. h.0 b (taken-in gives w ts b i), rec w)

abbrev attempt_of : Ask → Try → ℕ
attempt_of b (ask c) = c.attempt
attempt_of b (open_flow f) = b.attempt

from-first : (a n m : ℕ) → In m (range_with_len a n) → a ≤ m
from-first a zero m h = absurd h
from-first a (suc n) m (inl e) = omega arith
from-first a (suc n) m (inr h) = omega (arith, from-first (a + 1) n m h)

module _ (vs : List Value) (ds : List ℕ) (retries : ℕ) where
  -- the tries of later activities are of these
  later : (k : ℕ) (as' : List Activity) (a : Ask) → In (ask a) (tries vs ds retries k as') → k ≤ a.activity
  later k [] a h = absurd h
  later k (nested f ∷ as') a (inl p) = absurd (no-flow a f p)
  later k (nested f ∷ as') a (inr h) = omega (arith, later (suc k) as' a h)
  later k (service s ∷ as') a h = by (in-append (ask a) (attempts vs ds retries s k) (tries vs ds retries (suc k) as') h) (λ i. later (suc k) as' a i)
    where
      by : In (ask a) (attempts vs ds retries s k) ⊎ In (ask a) (tries vs ds retries (suc k) as') → (In (ask a) (tries vs ds retries (suc k) as') → suc k ≤ a.activity) → k ≤ a.activity
      by (inl i) rec = omega (arith, ap (λ (x : Ask). x.activity) (of-attempts vs ds retries s k a i))
      by (inr i) rec = omega (arith, rec i)

  abbrev tries_from : Name → ℕ → ℕ → ℕ → List Try
  tries_from s k a n = map (λ i. ask (one_ask vs ds retries s k i)) (range_with_len a n)

  -- attempt after attempt, in front of the tries of later activities
  attempts-once : (s : Name) (k a n : ℕ) (rest : List Try) → AreOnce rest → ((b : Ask) → In (ask b) rest → suc k ≤ b.activity) → AreOnce (tries_from s k a n ++ rest)
  attempts-once s k a zero rest h l = h
  attempts-once s k a (suc n) rest h l = (λ b i e. by b (ap (λ p. p.0) e) (ap (λ p. p.1) e) (in-append (ask b) (tries_from s k (a + 1) n) rest i), attempts-once s k (a + 1) n rest h l)
    where
      by : (b : Ask) → b.activity ≡ k → b.attempt ≡ a → In (ask b) (tries_from s k (a + 1) n) ⊎ In (ask b) rest → ⊥
      by b e f (inl i) =
          let w = of-map (λ m. ask (one_ask vs ds retries s k m)) (ask b) (range_with_len (a + 1) n) i in
          let same : b.attempt ≡ w.0 = ap (attempt_of b) w.2 in
          omega (arith, from-first (a + 1) n w.0 w.1)
      by b e f (inr i) = omega (arith, l b i)

  tries-once : (k : ℕ) (as' : List Activity) → AreOnce (tries vs ds retries k as')
  tries-once k [] = tt
  tries-once k (nested f ∷ as') = tries-once (suc k) as'
  tries-once k (service s ∷ as') = attempts-once s k 0 (suc retries) (tries vs ds retries (suc k) as') (tries-once (suc k) as') (λ b i. later (suc k) as' b i)

pub asks-once : (gives : Giving) (d : Document) (j : Job) → In j (meaning gives d).jobs → Apart ask_named j.asks
asks-once gives d =
    document-asks gives (λ s. Unit {0}) (Apart ask_named) tt
    (λ s vs u. taken-once gives [] (tries vs (declared_depths s) s.retries 0 s.activities) (tries-once vs (declared_depths s) s.retries 0 s.activities))
    d (each-all _ (λ f. each-all _ (λ s. tt) f.1.steps) d.flows)
