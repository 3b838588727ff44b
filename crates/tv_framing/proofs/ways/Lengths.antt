-- From which length on the prefixes of an event's place become whole.
use Rattle.std.specs.Cmp.Lexicographic.{bytes_decides}
use Rattle.std.specs.Prelude.{◌≡◌, refl, ℕ, zero, suc, ◌+◌, ◌≤◌, Bool, true, false, nat_le, List, [], ◌∷◌, ◌++◌, Option, Some, None, drop, length, min, option_and_then, take}
use Rattle.std.proofs.Common.{arith, ap, sym, subst, ◌∙◌, append_assoc, append-nil}
use Rattle.std.proofs.lemmas.Bool.{true≢false}
use Rattle.std.proofs.lemmas.List.{take-append-drop}
use Rattle.std.proofs.lemmas.Option.{none-some, same_Some}
use Rattle.tv_value.specs.Nested.{Place, at, children, item_at, leaf, list, no_trees, tree}
use Rattle.tv_value.specs.Orders.{same_name}
use Rattle.tv_value.specs.Values.{JobName, Name}
use Rattle.tv_strategy.specs.Iterations.{Iteration, Iterations}
use Rattle.tv_strategy.specs.Levels.{HasLevels}
use Rattle.tv_strategy.specs.Origins.{Origin}
use Rattle.tv_model.specs.instance.Steps.{spot}
use Rattle.tv_model.proofs.Sound.{AllStand, AllStandFrom}
use Rattle.tv_model.proofs.LawLemmas.{longer_prefixes-turn_whole}
use Rattle.tv_model.specs.instance.ByResults.{InstanceStep}
use Rattle.tv_model.specs.instance.Events.{Event, Events, event_place, event_step, is_telling, known_by}
use Rattle.tv_model.specs.instance.Fitting.{FitStep, FitsNode}
use Rattle.tv_model.specs.instance.Legality.{IsLegalNext}
use Rattle.tv_model.specs.instance.OneEvent.{Rises, turns_whole}
use Rattle.tv_model.specs.instance.Wholeness.{origin_at}
use Rattle.tv_framing.proofs.instances.Events.{hits, one-more, own-spot}
use Rattle.tv_framing.proofs.instances.Legal.{fresh-unknown, node-here}
use Rattle.tv_framing.specs.instances.InHistory.{Finds}
use Rattle.tv_framing.proofs.PortTellings.{NewlyAt, newly-all}
use Rattle.tv_framing.specs.PortTellings.{newly_by}
use Rattle.tv_framing.specs.ways.Stated.{IsFrom, OneLengthTurnsWhole}

-- ---- a test that stays true is true from some number on

first : (test : ℕ → Bool) (n : ℕ) → ((i j : ℕ) → i ≤ j → j ≤ n → test i ≡ true → test j ≡ true) → (from : ℕ) × ((i : ℕ) → i ≤ n → test i ≡ nat_le from i)
first test zero h = by (test 0) refl
  where
    at-zero : (from : ℕ) → test 0 ≡ nat_le from 0 → (i : ℕ) → i ≤ 0 → test i ≡ nat_le from i
    at-zero from e i l = let z : i ≡ 0 = omega arith in subst (λ k. test k ≡ nat_le from k) (sym z) e

    by : (b : Bool) → test 0 ≡ b → (from : ℕ) × ((i : ℕ) → i ≤ 0 → test i ≡ nat_le from i)
    by true e = (0, at-zero 0 e)
    by false e = (1, at-zero 1 e)
first test (suc n) h = by (test (suc n)) refl (first test n (λ i j a b. h i j a (omega (arith, b))))
  where
    from-end : (from i : ℕ) → i ≤ n → nat_le from i ≡ nat_le (min from (suc n)) i
    from-end from i l = grind arith

    there : (from : ℕ) → true ≡ nat_le (min from (suc n)) (suc n)
    there from = grind arith

    none : (i : ℕ) → i ≤ suc n → false ≡ nat_le (suc (suc n)) i
    none i l = grind arith

    late : (b : Bool) (i : ℕ) → test (suc n) ≡ false → i ≤ suc n → test i ≡ b → b ≡ false
    late true i e l g = absurd (true≢false (sym (h i (suc n) l (omega arith) g) ∙ e))
    late false i e l g = refl

    by : (b : Bool) → test (suc n) ≡ b → (from : ℕ) × ((i : ℕ) → i ≤ n → test i ≡ nat_le from i) → (from : ℕ) × ((i : ℕ) → i ≤ suc n → test i ≡ nat_le from i)
    by false e f = (suc (suc n), λ i l. late (test i) i e l refl ∙ none i l)
    by true e f = (min f.0 (suc n), λ i l. each i l (nat_le i n) refl)
      where
        within : (i : ℕ) → nat_le i n ≡ true → i ≤ n
        within i g = grind arith

        last : (i : ℕ) → i ≤ suc n → nat_le i n ≡ false → i ≡ suc n
        last i l g = grind arith

        each : (i : ℕ) → i ≤ suc n → (b : Bool) → nat_le i n ≡ b → test i ≡ nat_le (min f.0 (suc n)) i
        each i l true g = f.1 i (within i g) ∙ from-end f.0 i (within i g)
        each i l false g = subst (λ k. test k ≡ nat_le (min f.0 (suc n)) k) (sym (last i l g)) (e ∙ there f.0)

-- ---- what stands at the prefixes of a place

record Parts (t : Iteration) (a b : Place) (x : Iteration) : Type 0 where
  between : Iteration
  upper : at t a ≡ Some between
  lower : at between b ≡ Some x

parts : (t : Iteration) (a b : Place) (x : Iteration) → at t (a ++ b) ≡ Some x → Parts t a b x
parts t [] b x e = record { between = t; upper = refl; lower = e }
parts t (i ∷ a) b x e = by (λ u h. parts u a b x h) (item_at (children t) i) refl e
  where
    by : ((u : Iteration) → at u (a ++ b) ≡ Some x → Parts u a b x) → (o : Option Iteration) → item_at (children t) i ≡ o → option_and_then (λ u. at u (a ++ b)) o ≡ Some x → Parts t (i ∷ a) b x
    by rec None g h = absurd (none-some x h)
    by rec (Some u) g h = let p = rec u h in record { between = p.between; upper = ap (option_and_then (λ y. at y a)) g ∙ p.upper; lower = p.lower }

module _ (K : Place → Iteration → Type 0) where
  mutual
    stands : (t : Iteration) (q r : Place) (u : Iteration) → AllStand K q t → at t r ≡ Some u → K (q ++ r) u
    stands (leaf s x) q [] u h e = subst (λ y. K y u) (sym (append-nil q)) (subst (K q) (same_Some (leaf s x) u e) h)
    stands (list s ts) q [] u h e = subst (λ y. K y u) (sym (append-nil q)) (subst (K q) (same_Some (list s ts) u e) h.0)
    stands (leaf s x) q (i ∷ r) u h e = absurd (none-some u e)
    stands (list s ts) q (i ∷ r) u h e = stands-from ts q 0 i i r u (zero-plus i) h.1 e
      where
        zero-plus : (n : ℕ) → n ≡ 0 + n
        zero-plus n = omega arith

    stands-from : (ts : Iterations) (q : Place) (j i m : ℕ) (r : Place) (u : Iteration) → m ≡ j + i → AllStandFrom K q j ts → option_and_then (λ y. at y r) (item_at ts i) ≡ Some u → K (q ++ m ∷ r) u
    stands-from no_trees q j i m r u c h e = absurd (none-some u e)
    stands-from (tree t ts) q j zero m r u c h e =
        subst (λ y. K y u) (append_assoc q (j ∷ []) r ∙ ap (λ n. q ++ n ∷ r) (same j m c)) (stands t (q ++ j ∷ []) r u h.0 e)
      where
        same : (a b : ℕ) → b ≡ a + 0 → a ≡ b
        same a b f = omega arith
    stands-from (tree t ts) q j (suc i) m r u c h e = stands-from ts q (suc j) i m r u (next j i m c) h.1 e
      where
        next : (a b n : ℕ) → n ≡ a + suc b → n ≡ suc a + b
        next a b n f = omega arith

take-less : (n m : ℕ) (r : Place) → n ≤ m → take n (take m r) ≡ take n r
take-less zero m r h = refl
take-less (suc n) zero r h = absurd (omega arith)
take-less (suc n) (suc m) [] h = refl
take-less (suc n) (suc m) (i ∷ r) h = ap (λ l. i ∷ l) (take-less n m r (omega arith))

-- ---- an event

module _ (instance : JobName) (fs : List InstanceStep) (f : InstanceStep) (self : Finds fs f) (es : Events) (e : Event) (legal : IsLegalNext instance fs es e) (tells : is_telling e ≡ true) (own : same_name f.step.step (event_step e) ≡ true) (fit : FitStep f es) (levels : ℕ) (leveled : HasLevels f.step.iteration levels) where
  abbrev t : Iteration
  t = f.step.iteration

  abbrev r : Place
  r = event_place e

  abbrev named : Place → JobName
  named = spot instance f.step.step

  abbrev known : Origin → Bool
  known o = known_by instance es o

  abbrev after : Origin → Bool
  after o = known_by instance (e ∷ es) o

  same : event_step e ≡ f.step.step
  same = sym ((bytes_decides f.step.step (event_step e)).0 own)

  rising : Rises named known after r
  rising =
      record {
        hits = hits instance e;
        known_or_hit = one-more instance e es;
        at_place = λ q u h. (own-spot instance e f.step.step q u h).1;
      }

  fits : FitsNode e (at t r)
  fits = subst (FitsNode e) (node-here instance fs f self e own) legal.fits

  fit_after : FitStep f (e ∷ es)
  fit_after = (λ _. fits, fit)

  newly-at : (x : Place) (u : Iteration) → at t x ≡ Some u → newly_by es e f.step.step levels x ≡ turns_whole named known after x u
  newly-at x u h = stands (NewlyAt instance f e es fit fit_after levels) t [] x u (newly-all instance f e es fit fit_after levels leveled) h

  abbrev IsUnknown : Iteration → Name → Type 0
  IsUnknown node s = known (origin_at (spot instance s) r node) ≡ false

  module _ (node : Iteration) (there : at t r ≡ Some node) where
    unknown : known (origin_at named r node) ≡ false
    unknown = subst (IsUnknown node) same (fresh-unknown instance es e node tells (subst (FitsNode e) there fits) legal.fresh)

    -- longer prefixes become whole too
    stays : (i j : ℕ) → i ≤ j → j ≤ length r → newly_by es e f.step.step levels (take i r) ≡ true → newly_by es e f.step.step levels (take j r) ≡ true
    stays i j a b h =
        let up = parts t (take j r) (drop j r) node (ap (at t) (take-append-drop j r) ∙ there) in
        let cut : take i r ++ drop i (take j r) ≡ take j r = ap (λ l. l ++ drop i (take j r)) (sym (take-less i j r a)) ∙ take-append-drop i (take j r) in
        let mid = parts t (take i r) (drop i (take j r)) up.between (ap (at t) cut ∙ up.upper) in
        let here = sym (newly-at (take i r) mid.between mid.upper) ∙ h in
        let place : r ≡ (take i r ++ drop i (take j r)) ++ drop j r = sym (ap (λ l. l ++ drop j r) cut ∙ take-append-drop j r) in
        let more = longer_prefixes-turn_whole named known after r rising mid.between (take i r) (drop i (take j r)) (drop j r) up.between node (record { outer = here; inner = mid.lower; lowest = up.lower; place = place; new = unknown }) in
        newly-at (take j r) up.between up.upper ∙ subst (λ x. turns_whole named known after x up.between ≡ true) cut more

    pub from-there : (from : ℕ) × IsFrom (newly_by es e f.step.step levels) r from
    from-there = first (λ n. newly_by es e f.step.step levels (take n r)) (length r) stays

  pub one-length : (from : ℕ) × IsFrom (newly_by es e f.step.step levels) r from
  one-length = by (at t r) refl
    where
      by : (o : Option Iteration) → at t r ≡ o → (from : ℕ) × IsFrom (newly_by es e f.step.step levels) r from
      by None h = absurd (subst (FitsNode e) h fits)
      by (Some node) h = from-there node h

pub one-length-turns : OneLengthTurnsWhole
one-length-turns instance fs f self es e legal tells own fit levels leveled = one-length instance fs f self es e legal tells own fit levels leveled
