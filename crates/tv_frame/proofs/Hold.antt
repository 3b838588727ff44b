-- What the steps that an event feeds hold once they were asked to.
use Rattle.std.specs.List.{range_with_len}
use Rattle.std.specs.Prelude.{◌≡◌, refl, ℕ, zero, suc, ◌+◌, ◌<◌, ◌≤◌, ◌==◌, ◌||◌, Bool, true, false, filter, if◌then◌else◌, not, List, [], ◌∷◌, ◌++◌, length, Option, Some, None, Result, Ok, Err, OnOk}
use Rattle.std.proofs.Common.{arith, sym, ap, ap₂, subst, ◌∙◌, append-nil}
use Rattle.std.proofs.lemmas.Bool.{eq-eqb, ne_eqb, true≢false}
use Rattle.std.proofs.lemmas.Option.{slice_get_within}
use Rattle.tv_value.specs.Strategies.{Strategy}
use Rattle.tv_value.specs.Values.{Name}
use Rattle.tv_flow.specs.Flows.{Flow, Step}
use Rattle.tv_model.specs.instance.Steps.{strategy_of}
use Rattle.tv_matching.specs.Told.{Told}
use Rattle.tv_match.specs.declared.matchers.Matcher.{Matcher}
use Rattle.tv_match.specs.Seen.{matching}
use Rattle.tv_telling.specs.declared.ways.Event as code
use Rattle.tv_telling.specs.declared.ways.Way.{Way}
use Rattle.tv_telling.specs.declared.ways.Whole.{Whole}
use Rattle.tv_outputs.specs.Known.{Nodes}
use Rattle.tv_check.specs.declared.plans.FlowPlan.{FlowPlan}
use Rattle.tv_intake.specs.Intaken.{matcher_at}
use Rattle.tv_spread.specs.declared.around.Around.{Around}
use Rattle.tv_spread.specs.Arounds.{is_told, tellings_by, tells_some, told_at, told_steps, ways_at, wholes_at}
use Rattle.tv_spread.specs.Spreads.{CanShowAll, HoldTold, HoldsAt}
use Rattle.tv_spread.proofs.Holding.{at-test}
use Rattle.tv_model.specs.instance.Events.{Event}
use Rattle.tv_framing.specs.Views.{View}
use Rattle.tv_framing.specs.matches.Steps.{IsStepAt}
use Rattle.tv_frame.specs.declared.frame.Frame.{Frame}
use Rattle.tv_frame.specs.Kept.{HasMatcher, IsMatcherOf, Keeps}
use Rattle.tv_frame.specs.Prepared.{IsComing, IsHeld, IsToldThat, IsToldWith, is_one_of}
use Rattle.tv_frame.proofs.HoldAround.{IsAroundOf, ports-many}
use Rattle.tv_frame.proofs.HoldTold.{told-with}

-- ---- numbers that pass a test

none-below : (p : ℕ → Bool) (k m b : ℕ) → k < b → is_one_of (filter p (range_with_len b m)) k ≡ false
none-below p k zero b l = refl
none-below p k (suc m) b l = by (p b) (none-below p k m (b + 1) (omega (arith, l)))
  where
    differs : (b == k) ≡ false
    differs = ne_eqb b k (λ g. omega (arith, g, l))

    by : (c : Bool) → is_one_of (filter p (range_with_len (b + 1) m)) k ≡ false → is_one_of (if c then b ∷ filter p (range_with_len (b + 1) m) else filter p (range_with_len (b + 1) m)) k ≡ false
    by true h = ap (λ x. x || is_one_of (filter p (range_with_len (b + 1) m)) k) differs ∙ h
    by false h = h

one-here : (p : ℕ → Bool) (m b : ℕ) → is_one_of (filter p (range_with_len b (suc m))) b ≡ p b
one-here p m b = by (p b)
  where
    rest : List ℕ
    rest = filter p (range_with_len (b + 1) m)

    by : (c : Bool) → is_one_of (if c then b ∷ rest else rest) b ≡ c
    by true = ap (λ x. x || is_one_of rest b) (eq-eqb b b refl)
    by false = none-below p b m (b + 1) (omega arith)

pub one-of : (p : ℕ → Bool) (k m b : ℕ) → b ≤ k → k < b + m → is_one_of (filter p (range_with_len b m)) k ≡ p k
one-of p k zero b l g = absurd (omega arith)
one-of p k (suc m) b l g =
    at-test b k {C = is_one_of (filter p (range_with_len b (suc m))) k ≡ p k}
    (λ e. subst (λ x. is_one_of (filter p (range_with_len b (suc m))) x ≡ p x) e (one-here p m b))
    (λ ne. by (p b) ne (one-of p k m (b + 1) (omega (arith, l, ne)) (omega (arith, g))))
  where
    by : (c : Bool) → (b ≡ k → ⊥) → is_one_of (filter p (range_with_len (b + 1) m)) k ≡ p k → is_one_of (if c then b ∷ filter p (range_with_len (b + 1) m) else filter p (range_with_len (b + 1) m)) k ≡ p k
    by true ne h = ap (λ x. x || is_one_of (filter p (range_with_len (b + 1) m)) k) (ne_eqb b k ne) ∙ h
    by false ne h = h

-- ---- one matcher

some : (n : ℕ) → (suc n == 0) ≡ false
some n = ne_eqb (suc n) 0 (λ g. omega (arith, g))

none-told : (c : code.Event) (ways : List Way) (whole : List Whole) (g : Strategy) → tells_some ways whole ≡ false → tellings_by c ways whole g ≡ []
none-told c [] [] g h = refl
none-told c [] (y ∷ ys) g h = absurd (true≢false (sym (ap not (some (length ys))) ∙ h))
none-told c (w ∷ ws) whole g h = absurd (true≢false (sym (ap (λ b. not b || not (length whole == 0)) (some (length ws))) ∙ h))

module _ (v : View) (e : Event) (t : Name × Step) (ts : Strategy → List Told) (with : (m : Matcher) → IsMatcherOf v t m → IsToldThat v e t ((matching m).told ++ ts (strategy_of t.1))) where
  told-held : (o p : Option Matcher) → HasMatcher v t o → HoldsAt ts o p → IsToldWith v e t true p
  told-held None p h k = absurd h
  told-held (Some m) None h k = absurd k
  told-held (Some m) (Some n) h k =
      subst (IsToldThat v e t) (ap₂ (λ x y. x ++ y) (sym k.0.told_is) (ap ts (sym h.strategy_is) ∙ sym k.0.held_is)) (with m h)

  told-already : (o : Option Matcher) → HasMatcher v t o → ts (strategy_of t.1) ≡ [] → IsToldWith v e t false o
  told-already None h k = absurd h
  told-already (Some m) h k =
      subst (IsToldThat v e t) (ap (λ l. (matching m).told ++ l) k ∙ append-nil (matching m).told) (with m h)

  pub told-either : (b : Bool) (o p : Option Matcher) → HasMatcher v t o → (b ≡ true → HoldsAt ts o p) → (b ≡ false → p ≡ o) → (b ≡ false → ts (strategy_of t.1) ≡ []) → IsToldWith v e t b p
  told-either true o p h k l n = told-held o p h (k refl)
  told-either false o p h k l n = subst (IsToldWith v e t false) (sym (l refl)) (told-already o h (n refl))

-- ---- all

module _ (flows : List (Name × Flow)) (plan : FlowPlan) (pool : Nodes) (f : Frame) (v : View) (keeps : Keeps flows plan pool f v) (a : Around) (of : IsAroundOf plan pool f a) (n : ℕ) (s : Name × Step) (e : Event) (c : code.Event) (coming : IsComing flows v n s e c) (g : Frame) (touched : g.spread.touched.items ≡ told_steps a n c) (held : HoldTold a n c f.intakes g.intakes) (ready : CanShowAll (told_steps a n c) g.intakes g.idle) where
  told-step : (k : ℕ) (t : Name × Step) → IsStepAt v k t → IsToldWith v e t (is_one_of g.spread.touched.items k) (matcher_at g.intakes k)
  told-step k t at =
      let below : k < length a.wiring.now.ports = subst (λ m. k < m) (sym (ports-many flows plan pool f v keeps a of)) (slice_get_within v.flow.steps k t at) in
      let same : is_one_of g.spread.touched.items k ≡ is_told a n c k = ap (λ ms. is_one_of ms k) touched ∙ one-of (is_told a n c) k (length a.wiring.now.ports) 0 (omega arith) (omega (arith, below)) in
      subst (λ b. IsToldWith v e t b (matcher_at g.intakes k)) (sym same)
      (told-either v e t (told_at a n c k) (told-with flows plan pool f v keeps a of n s e c coming k t at) (is_told a n c k) (matcher_at f.intakes k) (matcher_at g.intakes k) (keeps.matchers_are k t at)
      (held.told k) (held.others k) (λ h. none-told c (ways_at a n k) (wholes_at a n c k) (strategy_of t.1) h))

  pub is-held : IsHeld v e g
  is-held = record {
    told = told-step;
    show = subst (λ cs. CanShowAll cs g.intakes g.idle) (sym touched) ready;
  }

-- so it is where the call answers
pub held-where_ok : {T E : Type 0} (plan : FlowPlan) (pool : Nodes) (f g : Frame) (n : ℕ) (c : code.Event) (a : Around) (r : Result T E) → IsAroundOf plan pool f a → OnOk r (HoldTold a n c f.intakes g.intakes) → OnOk r (g.spread.touched.items ≡ told_steps a n c) → OnOk r (CanShowAll (told_steps a n c) g.intakes g.idle) → OnOk r ((flows : List (Name × Flow)) (v : View) (s : Name × Step) (e : Event) → Keeps flows plan pool f v → IsComing flows v n s e c → IsHeld v e g)
held-where_ok plan pool f g n c a (Ok x) of held touched ready = λ flows v s e keeps coming. is-held flows plan pool f v keeps a of n s e c coming g touched held ready
held-where_ok plan pool f g n c a (Err x) of held touched ready = tt
