-- The laws.
use Rattle.std.specs.List.{range_with_len}
use Rattle.std.specs.Option.{option_map_or}
use Rattle.std.specs.Prelude.{◌≡◌, ℕ, zero, suc, ◌==◌, ◌<◌, ◌≤◌, ◌||◌, not, if◌then◌else◌, Bool, true, false, List, [], ◌∷◌, ◌++◌, Option, Some, None, filter, length, map, slice_set, refl}
use Rattle.std.proofs.Common.{arith, ap, sym, subst, ◌∙◌, append-nil, length-set}
use Rattle.std.proofs.lemmas.Bool.{ne_eqb, both_ways}
use Rattle.std.proofs.lemmas.List.{length-map}
use Rattle.tv_value.specs.Strategies.{Strategy}
use Rattle.tv_matching.specs.Told.{Told}
use Rattle.tv_match.specs.declared.matchers.Matcher.{Matcher}
use Rattle.tv_match.specs.Seen.{in_order, matching}
use Rattle.tv_telling.specs.declared.ways.Event.{Event}
use Rattle.tv_telling.specs.declared.ways.Way.{Way}
use Rattle.tv_telling.specs.declared.ways.Whole.{Whole}
use Rattle.tv_check.specs.declared.ports.Port.{Port}
use Rattle.tv_check.specs.Ports.{ports_of}
use Rattle.tv_check.specs.Turned.{all_wires, from_each}
use Rattle.tv_check.specs.Wirings.{all_ports}
use Rattle.tv_telling.specs.endings.Ends.{is_whole}
use Rattle.tv_telling.specs.endings.Feeds.{has_whole_with, leaves_whole_with}
use Rattle.tv_intake.specs.Intaken.{IsMadeAt, brought_at, matcher_at}
use Rattle.tv_intake.specs.Sorting.{brought}
use Rattle.tv_intake.proofs.IntakeLemmas.{ahead-parts}
use Rattle.tv_spread.specs.Arounds.{delivers_fault, is_told, tellings_by, tells_some, told_at, told_steps, ways_at, wholes_at}
use Rattle.tv_spread.specs.Wholes.{whole_port, wholes_with}
use Rattle.tv_spread.specs.Spreads.{HoldsAt, IsLevelled, binds_fault, is_faulty_now, new_faulty, new_good}
use Rattle.tv_idle.specs.Idles.{StepIdle, of_step, without}
use Rattle.tv_value.specs.Nested.{Place}
use Rattle.tv_spread.proofs.Showing.{made-faulty}
use Rattle.tv_spread.specs.Stated.{AllAreTold, FlagsAreTold, IsToldAt, ReadyStays, WholesAreLeaves, WiringsAreWired}
use Rattle.tv_spread.proofs.Lists.{each-within}
use Rattle.tv_spread.proofs.Reserving.{passing-pass}
use Rattle.tv_strategy.proofs.Each.{each-weaken}

pub wholes-leaves : WholesAreLeaves
wholes-leaves a s e ps = by (e.whole_from == 0)
  where
    each : (qs : List Port) → map (λ (w : Whole). w.leaf) (map (whole_port (delivers_fault a s e)) qs) ≡ map (λ (p : Port). p.leaf) qs
    each [] = refl
    each (p ∷ qs) = ap (λ l. p.leaf ∷ l) (each qs)

    by : (b : Bool) → map (λ (w : Whole). w.leaf) (if b then wholes_with (is_whole a.endings.now) s (delivers_fault a s e) ps else []) ≡ (if b then leaves_whole_with (is_whole a.endings.now) s ps else [])
    by true = each (filter (has_whole_with (is_whole a.endings.now) s) ps)
    by false = refl

pub wirings-wired : WiringsAreWired
wirings-wired f = ap (λ n. from_each (range_with_len 0 n) (all_wires (all_ports f))) (sym (length-map f.steps (λ s. ports_of f s.1)))

-- ---- held and then shown

-- a step that is told something was told that
held-made : (tellings : Strategy → List Told) (o p q : Option Matcher) → HoldsAt tellings o p → IsMadeAt p q → IsToldAt tellings (option_map_or brought p []) o q
held-made tellings None p q h m = absurd h
held-made tellings (Some x) None q h m = absurd h
held-made tellings (Some x) (Some y) None h m = absurd m
held-made tellings (Some x) (Some y) (Some z) h m =
    record {
      told = m.told ∙ (λ n. h.0.told_is n ++ h.0.held_is n);
      strategy = m.strategy ∙ h.0.strategy_is;
      mismatch = m.mismatch ∙ h.0.mismatch_is;
      follows = m.follows ∙ sym (ahead-parts y) ∙ ap (λ l. l ++ brought y) h.1;
    }

-- any other was told nothing
none-told : (tellings : Strategy → List Told) → ((s : Strategy) → tellings s ≡ []) → (o : Option Matcher) → IsToldAt tellings [] o o
none-told tellings e None = tt
none-told tellings e (Some m) =
    record {
      told = sym (ap (λ l. (matching m).told ++ l) (e (matching m).strategy) ∙ append-nil (matching m).told);
      strategy = refl;
      mismatch = refl;
      follows = sym (append-nil (in_order m));
    }

some-long : {A : Type 0} (x : A) (xs : List A) → (length (x ∷ xs) == 0) ≡ false
some-long x xs = ne_eqb (length (x ∷ xs)) 0 (λ e. omega (arith, e))

nothing-by : (e : Event) (ways : List Way) (whole : List Whole) → tells_some ways whole ≡ false → (s : Strategy) → tellings_by e ways whole s ≡ []
nothing-by e [] [] f s = refl
nothing-by e [] (w ∷ whole) f s = absurd (both_ways true (ap (λ b. not b) (sym (some-long w whole)) ∙ f) refl)
nothing-by e (w ∷ ways) whole f s = absurd (both_ways true (ap (λ b. not b || not (length whole == 0)) (sym (some-long w ways)) ∙ f) refl)

pub all-told : AllAreTold
all-told a s e i j k h m c l = by (is_told a s e c) refl
  where
    by : (b : Bool) → is_told a s e c ≡ b → IsToldAt (told_at a s e c) (if b then brought_at j c else []) (matcher_at i c) (matcher_at k c)
    by true f = held-made (told_at a s e c) (matcher_at i c) (matcher_at j c) (matcher_at k c) (h.told c f) (each-within (λ d. IsMadeAt (matcher_at j d) (matcher_at k d)) (is_told a s e) c (length a.wiring.now.ports) l f m.made)
    by false f =
        let same : matcher_at k c ≡ matcher_at i c = m.others c (each-weaken (λ d. is_told a s e d ≡ true) (λ d. d ≡ c → ⊥) (λ d t g. both_ways (is_told a s e c) f (subst (λ x. is_told a s e x ≡ true) g t)) (told_steps a s e) (passing-pass (is_told a s e) (range_with_len 0 (length a.wiring.now.ports)))) ∙ h.others c f in
        subst (IsToldAt (told_at a s e c) [] (matcher_at i c)) (sym same) (none-told (told_at a s e c) (nothing-by e (ways_at a s c) (wholes_at a s e c) f) (matcher_at i c))

pub flags-told : FlagsAreTold
flags-told cs i j m =
    each-weaken (λ c. IsMadeAt (matcher_at i c) (matcher_at j c)) (λ c. (q : Place) → is_faulty_now j (c, q) ≡ binds_fault i (c, q))
    (λ c h q. made-faulty (matcher_at i c) (matcher_at j c) h q) cs m.made

-- ---- between

-- what is so of a step's idle jobs is so where it is of those that are put there
slot-after : (P : StepIdle → Type 0) (ss : List StepIdle) (c d : ℕ) (x : StepIdle) → (c ≡ d → P x) → P (of_step ss d) → P (of_step (slice_set ss c x) d)
slot-after P [] c d x f h = h
slot-after P (s ∷ ss) zero zero x f h = f refl
slot-after P (s ∷ ss) zero (suc d) x f h = h
slot-after P (s ∷ ss) (suc c) zero x f h = h
slot-after P (s ∷ ss) (suc c) (suc d) x f h = slot-after P ss c d x (λ e. f (ap suc e)) h

level-same : (o : Option Matcher) (s t : StepIdle) → t.levels ≡ s.levels → IsLevelled o s → IsLevelled o t
level-same None s t e h = tt
level-same (Some m) s t e h = e ∙ h

pub ready-stays : ReadyStays
ready-stays cs i idle new step number e r h =
    let gone : (P : StepIdle → Type 0) → ((s : StepIdle) → P s → P (without number s)) → (d : ℕ) → P (of_step idle.steps d) → P (of_step new.steps d) =
    λ P keep d k. subst (λ ss. P (of_step ss d)) (sym e) (slot-after P idle.steps step d (without number (of_step idle.steps step)) (λ g. subst (λ y. P (without number (of_step idle.steps y))) (sym g) (keep (of_step idle.steps d) k)) k) in
    record {
      once = h.once;
      can = h.can;
      intake_room = h.intake_room;
      within =
          let l : length new.steps ≡ length idle.steps = ap length e ∙ length-set idle.steps step (without number (of_step idle.steps step)) in
          each-weaken (λ c. c < length idle.steps) (λ c. c < length new.steps) (λ c m. omega (arith, l, m)) cs h.within;
      levels = each-weaken (λ c. IsLevelled (matcher_at i c) (of_step idle.steps c)) (λ c. IsLevelled (matcher_at i c) (of_step new.steps c)) (λ c k. gone (IsLevelled (matcher_at i c)) (λ s p. level-same (matcher_at i c) s (without number s) refl p) c k) cs h.levels;
      good_room = each-weaken (λ c. new_good i c ≤ (of_step idle.steps c).good_room) (λ c. new_good i c ≤ (of_step new.steps c).good_room) (λ c k. gone (λ s. new_good i c ≤ s.good_room) (λ s p. p) c k) cs h.good_room;
      faulty_room = each-weaken (λ c. new_faulty i c ≤ (of_step idle.steps c).faulty_room) (λ c. new_faulty i c ≤ (of_step new.steps c).faulty_room) (λ c k. gone (λ s. new_faulty i c ≤ s.faulty_room) (λ s p. p) c k) cs h.faulty_room;
      numbers = let n = h.numbers in omega (arith, n, r);
    }
