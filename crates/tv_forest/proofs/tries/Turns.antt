-- What is left of a job's tries goes with what is left of its plan's turns.
use Rattle.std.specs.Prelude.{◌≡◌, refl, ℕ, zero, suc, ◌+◌, ◌-◌, ◌≤◌, ◌⊎◌, List, [], ◌∷◌, ◌++◌, drop, map, false, option_map, Some, Result, Ok, Err, is_ok, slice_get}
use Rattle.std.specs.List.{range_with_len}
use Rattle.std.proofs.Common.{arith, sym, ap, subst, ◌∙◌, inl, inr}
use Rattle.std.proofs.lemmas.List.{drop-map}
use Rattle.std.proofs.lemmas.Option.{none-some, same_Some, slice_get-map}
use Rattle.tv_value.specs.Activities.{Activity, nested, service}
use Rattle.tv_value.specs.Values.{Name, Text, Value}
use Rattle.tv_gate.specs.Outcomes.{Giving}
use Rattle.tv_flow.specs.Flows.{Step}
use Rattle.tv_strategy.specs.Origins.{plain}
use Rattle.tv_dispatch.specs.Jobs.{Ask, Fate, Try, ask, open_flow, opens, outcome_of, right, take_tries, tries, wrong}
use Rattle.tv_dispatch.specs.Plans.{PlanTurn, asks, came_right, first_next, kind_of, nests, next_after, next_try, turns, turns_of}
use Rattle.tv_dispatch.specs.declared.plan.Kind.{Kind}
use Rattle.tv_dispatch.specs.declared.plan.Kind.TheVariants.{Service}
use Rattle.tv_dispatch.specs.declared.plan.Next.{Next}
use Rattle.tv_dispatch.specs.declared.plan.Next.TheVariants as next
use Rattle.tv_dispatch.specs.declared.plan.Plan.{Plan}
use Rattle.tv_dispatch.proofs.Turns.{attempts, left-rest, rest}
use Rattle.tv_model.specs.instance.Steps.{declared_depths}
use Rattle.tv_model.specs.Jobs.{Job}
use Rattle.tv_model.specs.Lists.{first_of_list, rest_of}
use Rattle.tv_history.proofs.activities.Distinct.{taken_by}
use Rattle.tv_forest.specs.tries.Steps.{IsAskOf, IsOfPlan, IsPlanOf}

abbrev pub plan_of : Step → Plan
plan_of s = record { activities = map kind_of s.activities; retries = s.retries }

pub plan-is : (p : Plan) (s : Step) → IsPlanOf p s → p ≡ plan_of s
plan-is p s w = λ i. record { activities = w.activities i; retries = w.retries i }

-- the first of the activities from k on, and those after it
head-is :
    (as' bs : List Activity) (k : ℕ) (b : Activity) → drop k as' ≡ b ∷ bs
    → (slice_get as' k ≡ Some b) × (drop (suc k) as' ≡ bs)
head-is [] bs zero b e = absurd cc
head-is [] bs (suc k) b e = absurd cc
head-is (a ∷ as') bs zero b e = (cc, cc)
head-is (a ∷ as') bs (suc k) b e = head-is as' bs k b e

module _ (s : Step) (j : Job) where
  abbrev kinds : List Kind
  kinds = map kind_of s.activities

  abbrev all_tries : List Try
  all_tries = tries (map plain j.inputs) (declared_depths s) s.retries 0 s.activities

  -- attempt n at service f, which is activity k
  abbrev one_ask : Name → ℕ → ℕ → Ask
  one_ask f k n =
      record { service = f; inputs = map plain j.inputs; outputs = declared_depths s; activity = k; attempt = n }

  abbrev tries_from : ℕ → List Activity → List Try
  tries_from k bs = tries (map plain j.inputs) (declared_depths s) s.retries k bs

  -- tries and turns go together, and after each turn come those that are left after it
  abbrev pub Fit : List Try → List PlanTurn → Type 0
  Fit [] [] = Unit {0}
  Fit [] (u ∷ us) = ⊥
  Fit (t ∷ ts) [] = ⊥
  Fit (ask a ∷ ts) (asks k n ∷ us) = IsAskOf s j k n a × (n ≤ s.retries) × (us ≡ rest s.retries kinds k n) × Fit ts us
  Fit (open_flow f ∷ ts) (nests k ∷ us) = (slice_get s.activities k ≡ Some (nested f)) × Fit ts us
  Fit (ask a ∷ ts) (nests k ∷ us) = ⊥
  Fit (open_flow f ∷ ts) (asks k n ∷ us) = ⊥

  rest-is :
      (k a m : ℕ) (us : List PlanTurn) → m ≡ s.retries - a → us ≡ turns s.retries (k + 1) (drop (k + 1) kinds)
      → attempts k (a + 1) m ++ us ≡ rest s.retries kinds k a
  rest-is k a m us e q = ap (λ i. attempts k (a + 1) i ++ us) e ∙ ap (λ x. attempts k (a + 1) (s.retries - a) ++ x) q

  fit-attempts :
      (f : Name) (k : ℕ) → slice_get s.activities k ≡ Some (service f) → (ts : List Try) (us : List PlanTurn)
      → us ≡ turns s.retries (k + 1) (drop (k + 1) kinds) → Fit ts us → (a m : ℕ) → a + m ≡ suc s.retries
      → Fit (map (λ n. ask (one_ask f k n)) (range_with_len a m) ++ ts) (attempts k a m ++ us)
  fit-attempts f k v ts us q h a zero e = h
  fit-attempts f k v ts us q h a (suc m) e = (
    record { activity = refl; attempt = refl; is_service = v; inputs = refl; outputs = refl },
    less a m s.retries e,
    rest-is k a m us (many a m s.retries e) q,
    fit-attempts f k v ts us q h (a + 1) m (on a m s.retries e),
  )
    where
      less : (a m r : ℕ) → a + suc m ≡ suc r → a ≤ r
      less a m r e = omega arith

      many : (a m r : ℕ) → a + suc m ≡ suc r → m ≡ r - a
      many a m r e = omega arith

      on : (a m r : ℕ) → a + suc m ≡ suc r → a + 1 + m ≡ suc r
      on a m r e = omega arith

  fit-tries :
      (k : ℕ) (bs : List Activity) → drop k s.activities ≡ bs
      → Fit (tries_from k bs) (turns s.retries k (map kind_of bs))
  fit-tries k [] e = tt
  fit-tries k (nested f ∷ bs) e = let h = head-is s.activities bs k (nested f) e in (h.0, fit-tries (suc k) bs h.1)
  fit-tries k (service f ∷ bs) e =
      let h = head-is s.activities bs k (service f) e in
      fit-attempts f k h.0 (tries_from (suc k) bs) (turns s.retries (suc k) (map kind_of bs)) (later h.1)
      (fit-tries (suc k) bs h.1) 0 (suc s.retries) (all s.retries)
    where
      next_number : (k : ℕ) → suc k ≡ k + 1
      next_number k = omega arith

      all : (r : ℕ) → 0 + suc r ≡ suc r
      all r = omega arith

      later :
          drop (suc k) s.activities ≡ bs
          → turns s.retries (suc k) (map kind_of bs) ≡ turns s.retries (k + 1) (drop (k + 1) kinds)
      later q =
          ap (λ l. turns s.retries (suc k) (map kind_of l)) (sym q)
          ∙ ap (λ l. turns s.retries (suc k) l) (sym (drop-map kind_of (suc k) s.activities))
          ∙ ap (λ i. turns s.retries i (drop i kinds)) (next_number k)

  module _ (gives : Giving) where
    -- the asks that are left, before the job's tries have come to an end
    pub record Goes (end : Fate) (l : List Ask) : Type 0 where
      pub why : Text
      pub left : List Try
      pub turns_left : List PlanTurn
      pub fit : Fit left turns_left
      pub are : l ≡ (take_tries gives why left).asks
      pub ends : (take_tries gives why left).fate ≡ end

    -- with its ask answered wrongly, a job goes on with the tries after it
    abbrev pub Stands : Fate → List Ask → Type 0
    Stands end l = (l ≡ []) ⊎ Goes end l

    pub at-start : Goes (take_tries gives [] all_tries).fate (take_tries gives [] all_tries).asks
    at-start = record {
      why = [];
      left = all_tries;
      turns_left = turns_of (plan_of s);
      fit = fit-tries 0 s.activities refl;
      are = refl;
      ends = refl;
    }

    -- ---- what is left after one more outcome

    rest-stands :
        (end : Fate) (why : Text) (ts : List Try) (us : List PlanTurn) → Fit ts us → (take_tries gives why ts).fate ≡ end
        → Stands end (rest_of (take_tries gives why ts).asks)
    rest-stands end why [] us f e = inl refl
    rest-stands end why (open_flow g ∷ ts) us f e = inl refl
    rest-stands end why (ask a ∷ ts) [] f e = absurd f
    rest-stands end why (ask a ∷ ts) (nests k ∷ us) f e = absurd f
    rest-stands end why (ask a ∷ ts) (asks k n ∷ us) f e = by (outcome_of gives a) e
      where
        by :
            (r : Result (List Value) Text) → (taken_by gives a ts r).fate ≡ end
            → Stands end (rest_of (taken_by gives a ts r).asks)
        by (Ok vs) h = inl refl
        by (Err w) h = inr (record { why = w; left = ts; turns_left = us; fit = f.3; are = refl; ends = h })

    pub stands-on : (end : Fate) (l : List Ask) → Stands end l → Stands end (rest_of l)
    stands-on end l (inl e) = inl (ap rest_of e)
    stands-on end l (inr g) = subst (λ x. Stands end (rest_of x)) (sym g.are) (rest-stands end g.why g.left g.turns_left g.fit g.ends)

    -- ---- what the turns that are left say

    abbrev pub Says : Text → Fate → List Ask → Next → Type 0
    Says why end l (next.Ask a t) = (k : Ask) × (first_of_list l ≡ Some k) × IsAskOf s j a t k
    Says why end l (next.Nest a) = (l ≡ []) × (f : Name) × (end ≡ opens f) × (slice_get s.activities a ≡ Some (nested f))
    Says why end l next.Failed = (l ≡ []) × (end ≡ wrong why)
    Says why end l next.Done = ⊥
    Says why end l next.Bounce = ⊥

    first-taken :
        (a : Ask) (ts : List Try) (r : Result (List Value) Text)
        → first_of_list (taken_by gives a ts r).asks ≡ Some a
    first-taken a ts (Ok vs) = refl
    first-taken a ts (Err w) = refl

    turns-say :
        (end : Fate) (why : Text) (ts : List Try) (us : List PlanTurn) → Fit ts us → (take_tries gives why ts).fate ≡ end
        → Says why end (take_tries gives why ts).asks (next_try us)
    turns-say end why [] [] f e = (refl, sym e)
    turns-say end why [] (u ∷ us) f e = absurd f
    turns-say end why (ask a ∷ ts) [] f e = absurd f
    turns-say end why (open_flow g ∷ ts) [] f e = absurd f
    turns-say end why (ask a ∷ ts) (nests k ∷ us) f e = absurd f
    turns-say end why (open_flow g ∷ ts) (asks k n ∷ us) f e = absurd f
    turns-say end why (open_flow g ∷ ts) (nests k ∷ us) f e = (refl, g, sym e, f.0)
    turns-say end why (ask a ∷ ts) (asks k n ∷ us) f e = (a, first-taken a ts (outcome_of gives a), f.0)

    pub start-says : Says [] (take_tries gives [] all_tries).fate (take_tries gives [] all_tries).asks (first_next (plan_of s) false)
    start-says = turns-say (take_tries gives [] all_tries).fate [] all_tries (turns_of (plan_of s)) (fit-tries 0 s.activities refl) refl

    -- ---- what is said after an outcome of the first ask that is left

    pub data SaysAfter (end : Fate) (l : List Ask) (k : Ask) (x : Next) : Type 0 where
      was_right :
          (vs : List Value) → x ≡ next.Done → l ≡ [] → end ≡ right vs → outcome_of gives k ≡ Ok vs
          → SaysAfter end l k x
      was_wrong : (why : Text) → outcome_of gives k ≡ Err why → Says why end l x → SaysAfter end l k x

    -- the first ask that is left, with what comes after it
    pub record Heads (end : Fate) (l : List Ask) (k : Ask) : Type 0 where
      pub of_step : IsAskOf s j k.activity k.attempt k
      pub of_plan : IsOfPlan (plan_of s) k
      pub after : SaysAfter end (rest_of l) k (next_after (plan_of s) k.activity k.attempt (came_right gives k))

    heads-by :
        (end : Fate) (why : Text) (ts : List Try) (us : List PlanTurn) → Fit ts us → (take_tries gives why ts).fate ≡ end
        → (k : Ask) → first_of_list (take_tries gives why ts).asks ≡ Some k → Heads end (take_tries gives why ts).asks k
    heads-by end why [] us f e k h = absurd (none-some k h)
    heads-by end why (open_flow g ∷ ts) us f e k h = absurd (none-some k h)
    heads-by end why (ask a ∷ ts) [] f e k h = absurd f
    heads-by end why (ask a ∷ ts) (nests c ∷ us) f e k h = absurd f
    heads-by end why (ask a ∷ ts) (asks c n ∷ us) f e k h =
        subst (Heads end (take_tries gives why (ask a ∷ ts)).asks) (same_Some a k (sym (first-taken a ts (outcome_of gives a)) ∙ h))
        (record { of_step = itself; of_plan = planned; after = by (outcome_of gives a) refl e })
      where
        itself : IsAskOf s j a.activity a.attempt a
        itself = subst (λ i. IsAskOf s j i a.attempt a) (sym f.0.activity) (subst (λ i. IsAskOf s j c i a) (sym f.0.attempt) f.0)

        is_service : slice_get kinds c ≡ Some Service
        is_service = slice_get-map kind_of s.activities c ∙ ap (option_map kind_of) f.0.is_service

        planned : IsOfPlan (plan_of s) a
        planned = record { is_service = ap (slice_get kinds) f.0.activity ∙ is_service; attempts = subst (λ i. i ≤ s.retries) (sym f.0.attempt) f.1 }

        on-wrong : next_after (plan_of s) a.activity a.attempt false ≡ next_try us
        on-wrong =
            ap (λ i. next_after (plan_of s) i a.attempt false) f.0.activity
            ∙ ap (λ i. next_after (plan_of s) c i false) f.0.attempt ∙ ap next_try (left-rest s.retries kinds c n is_service f.1 ∙ sym f.2)

        by :
            (r : Result (List Value) Text) → outcome_of gives a ≡ r → (taken_by gives a ts r).fate ≡ end
            → SaysAfter end (rest_of (taken_by gives a ts r).asks) a (next_after (plan_of s) a.activity a.attempt (came_right gives a))
        by (Ok vs) o h = was_right vs (ap (λ x. next_after (plan_of s) a.activity a.attempt (is_ok x)) o) refl (sym h) o
        by (Err w) o h =
            was_wrong w o
            (subst (Says w end (take_tries gives w ts).asks)
            (sym (ap (λ x. next_after (plan_of s) a.activity a.attempt (is_ok x)) o ∙ on-wrong))
            (turns-say end w ts us f.3 h))

    pub heads : (end : Fate) (l : List Ask) → Stands end l → (k : Ask) → first_of_list l ≡ Some k → Heads end l k
    heads end l (inl e) k h = absurd (none-some k (sym (ap first_of_list e) ∙ h))
    heads end l (inr g) k h =
        subst (λ x. Heads end x k) (sym g.are) (heads-by end g.why g.left g.turns_left g.fit g.ends k (sym (ap first_of_list g.are) ∙ h))
