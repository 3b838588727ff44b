-- No two tries of a job have one activity and attempt.
use Rattle.std.specs.Prelude.{◌≡◌, ℕ, suc, ◌⊎◌, ◌≤◌, List, [], ◌∷◌, map, Result, Ok, Err}
use Rattle.std.specs.List.{range_with_len}
use Rattle.std.proofs.Common.{arith, sym, ap, subst, ◌∙◌, inl, inr}
use Rattle.tv_lemmas.specs.Members.{In}
use Rattle.tv_lemmas.proofs.Members.{in-append, of-map}
use Rattle.tv_lemmas.proofs.Cases.{on_either}
use Rattle.tv_value.specs.Activities.{Activity, service, nested}
use Rattle.tv_value.specs.Values.{Name, Text, Value}
use Rattle.tv_flow.specs.Flows.{Document}
use Rattle.tv_gate.specs.Outcomes.{Giving}
use Rattle.tv_dispatch.specs.Jobs.{Ask, outcome_of, Try, ask, open_flow, tries, right, Taken, take_tries, match_result}
use Rattle.tv_model.specs.instance.Steps.{declared_depths}
use Rattle.tv_model.specs.Jobs.{Job}
use Rattle.tv_model.specs.Meanings.{meaning}
use Rattle.tv_history.proofs.activities.Everywhere.{document-asks}
use Rattle.tv_strategy.proofs.Each.{each-all}

abbrev pub AreDistinct : List Ask → Type 0
AreDistinct as' = (a b : Ask) → In a as' → In b as' → a.activity ≡ b.activity → a.attempt ≡ b.attempt → a ≡ b

-- what is taken is among the tries
abbrev pub taken_by : Giving → Ask → List Try → Result (List Value) Text → Taken
taken_by gives a ts r = match_result {C = Taken} r (λ vs. record { asks = a ∷ []; fate = right vs }) (λ reason. record { asks = a ∷ (take_tries gives reason ts).asks; fate = (take_tries gives reason ts).fate })

pub taken-in : (gives : Giving) (why : Text) (ts : List Try) (b : Ask) → In b (take_tries gives why ts).asks → In (ask b) ts
taken-in gives why [] b h = absurd h
taken-in gives why (open_flow f ∷ ts) b h = absurd h
taken-in gives why (ask a ∷ ts) b h = by (outcome_of gives a) h (λ w k. taken-in gives w ts b k)
  where
    by : (r : Result (List Value) Text) → In b (taken_by gives a ts r).asks → ((w : Text) → In b (take_tries gives w ts).asks → In (ask b) ts) → In (ask b) (ask a ∷ ts)
    by (Ok vs) (inl p) rec = inl (ap (λ x. ask x) p)
    by (Ok vs) (inr k) rec = absurd k
    by (Err w) (inl p) rec = inl (ap (λ x. ask x) p)
    by (Err w) (inr k) rec = inr (rec w k)

ask-part : (a b : Ask) → ask a ≡ ask b → a ≡ b
ask-part a b e = ap or_a e
  where
    or_a : Try → Ask
    or_a (ask c) = c
    or_a (open_flow f) = a

pub no-flow : (a : Ask) (f : Name) → ask a ≡ open_flow f → ⊥
no-flow a f e = subst Holds e tt
  where
    Holds : Try → Type 0
    Holds (ask c) = Unit {0}
    Holds (open_flow g) = ⊥

module _ (vs : List Value) (ds : List ℕ) (retries : ℕ) where
  abbrev pub one_ask : Name → ℕ → ℕ → Ask
  one_ask s k n = record { service = s; inputs = vs; outputs = ds; activity = k; attempt = n }

  abbrev pub attempts : Name → ℕ → List Try
  attempts s k = map (λ n. ask (one_ask s k n)) (range_with_len 0 (suc retries))

  pub of-attempts : (s : Name) (k : ℕ) (a : Ask) → In (ask a) (attempts s k) → a ≡ one_ask s k a.attempt
  of-attempts s k a h =
      let r = of-map (λ n. ask (one_ask s k n)) (ask a) (range_with_len 0 (suc retries)) h in
      let e = ask-part a (one_ask s k r.0) r.2 in
      e ∙ ap (λ n. one_ask s k n) (sym (ap (λ (x : Ask). x.attempt) e))

  later : (k : ℕ) (as' : List Activity) (a : Ask) → In (ask a) (tries vs ds retries k as') → k ≤ a.activity
  later k [] a h = absurd h
  later k (nested f ∷ as') a (inl p) = absurd (no-flow a f p)
  later k (nested f ∷ as') a (inr h) = omega (arith, later (suc k) as' a h)
  later k (service s ∷ as') a h = on_either (in-append (ask a) (attempts s k) (tries vs ds retries (suc k) as') h) (λ q. omega (arith, ap (λ (x : Ask). x.activity) (of-attempts s k a q))) (λ q. less k a.activity (later (suc k) as' a q))
    where
      less : (x y : ℕ) → suc x ≤ y → x ≤ y
      less x y p = omega arith

  tries-distinct : (k : ℕ) (as' : List Activity) (a b : Ask) → In (ask a) (tries vs ds retries k as') → In (ask b) (tries vs ds retries k as') → a.activity ≡ b.activity → a.attempt ≡ b.attempt → a ≡ b
  tries-distinct k [] a b h g e f = absurd h
  tries-distinct k (nested n ∷ as') a b (inl p) g e f = absurd (no-flow a n p)
  tries-distinct k (nested n ∷ as') a b (inr h) (inl p) e f = absurd (no-flow b n p)
  tries-distinct k (nested n ∷ as') a b (inr h) (inr g) e f = tries-distinct (suc k) as' a b h g e f
  tries-distinct k (service s ∷ as') a b h g e f = by (in-append (ask a) (attempts s k) (tries vs ds retries (suc k) as') h) (in-append (ask b) (attempts s k) (tries vs ds retries (suc k) as') g) (λ x y. tries-distinct (suc k) as' a b x y e f)
    where
      apart : (x y : ℕ) → x ≡ k → suc k ≤ y → x ≡ y → ⊥
      apart x y p q r = omega arith

      by : In (ask a) (attempts s k) ⊎ In (ask a) (tries vs ds retries (suc k) as') → In (ask b) (attempts s k) ⊎ In (ask b) (tries vs ds retries (suc k) as') → (In (ask a) (tries vs ds retries (suc k) as') → In (ask b) (tries vs ds retries (suc k) as') → a ≡ b) → a ≡ b
      by (inl x) (inl y) rec = of-attempts s k a x ∙ ap (λ n. one_ask s k n) f ∙ sym (of-attempts s k b y)
      by (inl x) (inr y) rec = absurd (apart a.activity b.activity (ap (λ (z : Ask). z.activity) (of-attempts s k a x)) (later (suc k) as' b y) e)
      by (inr x) (inl y) rec = absurd (apart b.activity a.activity (ap (λ (z : Ask). z.activity) (of-attempts s k b y)) (later (suc k) as' a x) (sym e))
      by (inr x) (inr y) rec = rec x y

pub asks-distinct : (gives : Giving) (d : Document) (j : Job) → In j (meaning gives d).jobs → AreDistinct j.asks
asks-distinct gives d =
    document-asks gives (λ s. Unit {0}) AreDistinct (λ a b h. absurd h)
    (λ s vs u a b h g e f. let ts = tries vs (declared_depths s) s.retries 0 s.activities in tries-distinct vs (declared_depths s) s.retries 0 s.activities a b (taken-in gives [] ts a h) (taken-in gives [] ts b g) e f)
    d (each-all _ (λ f. each-all _ (λ s. tt) f.1.steps) d.flows)
