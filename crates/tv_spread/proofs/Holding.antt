-- Matchers that hold what they are told, step by step.
use Rattle.std.specs.List.{range_with_len}
use Rattle.std.specs.Option.{option_copied}
use Rattle.std.specs.Prelude.{◌≡◌, ℕ, zero, suc, ◌+◌, ◌<◌, ◌≤◌, true, false, List, [], ◌∷◌, ◌++◌, Option, Some, None, drop, filter, length, map, slice_get, take, refl}
use Rattle.std.proofs.Common.{Bor, arith, get_or, inl, inr, ap, sym, subst, ◌∙◌, append_assoc, append-nil}
use Rattle.std.proofs.lemmas.List.{take-append-drop}
use Rattle.std.proofs.lemmas.Bool.{both_ways, cases_lt}
use Rattle.tv_lemmas.specs.Members.{Each}
use Rattle.tv_lemmas.proofs.Numbers.{none-below}
use Rattle.tv_matching.specs.Items.{if_so}
use Rattle.tv_strategy.specs.Measures.{leaf_names}
use Rattle.tv_strategy.proofs.Sources.{each-append}
use Rattle.tv_strategy.proofs.Each.{each-weaken}
use Rattle.tv_matching.specs.Matchers.{CanTellAll}
use Rattle.tv_match.specs.declared.matchers.Matcher.{Matcher}
use Rattle.tv_match.specs.declared.told.Told as code
use Rattle.tv_match.specs.Seen.{matching}
use Rattle.tv_match.proofs.Scripts.{can-held}
use Rattle.tv_telling.specs.declared.ways.Event.{Event}
use Rattle.tv_check.specs.declared.wires.Wire.{Wire}
use Rattle.tv_intake.specs.declared.intakes.Intakes.{Intakes}
use Rattle.tv_intake.specs.Intaken.{AreIntaken, CanHold, CanShow, HoldsThese, OthersStay, known_jobs, matcher_at, waiting_things}
use Rattle.tv_spread.specs.declared.around.Around.{Around}
use Rattle.tv_telling.specs.Along.{is_walked, way_of, ways_into}
use Rattle.tv_spread.specs.Arounds.{IsAround, is_told, ports_at, told_at, told_steps, ways_at, wholes_at, wires_along}
use Rattle.tv_spread.specs.Runs.{AreSortedFrom, StartsElsewhere}
use Rattle.tv_spread.specs.Spreads.{CanBeTold, CanHoldThese, HoldTold, HoldsAt, StaysAt}
use Rattle.tv_spread.proofs.Lists.{passing-more, passing-until}
use Rattle.tv_spread.proofs.Runs.{run-ways, sorted-behind, sorted-each, sorted-first}
use Rattle.tv_spread.proofs.Leaves.{leaves-named}
use Rattle.tv_spread.proofs.Told.{along-sorted, along-ways, along-within, untold, ways-leaf, wholes-leaf}

-- ---- one matcher

pub stays-same : (o : Option Matcher) → StaysAt o o
stays-same None = tt
stays-same (Some m) = (record { strategy = refl; mismatch = refl; told = refl; given = refl }, refl)

-- what can be told can be held
pub can-hold : (a : Around) (s : ℕ) (e : Event) → IsAround a s e → (c : ℕ) (o : Option Matcher) → CanBeTold (told_at a s e c) (ports_at a c) o → CanHoldThese (told_at a s e c) o
can-hold a s e h c None k ts are = absurd k
can-hold a s e h c (Some m) k ts are =
    let n = length (leaf_names (matching m).strategy) in (
      leaves-named n e (ways_at a s c) (wholes_at a s e c) (ways-leaf a s e h c n k.1) (wholes-leaf a s e h n (ports_at a c) k.1) ts are,
      subst (CanTellAll (matching m)) (sym (are (matching m).strategy)) k.0,
    )

-- and they can be shown
pub can-shown : (ts : List code.Told) (o p : Option Matcher) → CanHold o ts → HoldsThese ts o p → CanShow p
can-shown ts None p c h = absurd c
can-shown ts (Some m) None c h = absurd h
can-shown ts (Some m) (Some n) c h = can-held (matching m) (matching n) ts h.0 c.1

-- ---- step by step

-- the wires before `rest` have been looked at
pub record Telling (a : Around) (s : ℕ) (e : Event) (i j : Intakes) (touched : List ℕ) (rest : List Wire) : Type 0 where
  pub done : List Wire
  pub all : done ++ rest ≡ wires_along a s e
  pub bound : ℕ
  pub below : Each (λ (w : Wire). w.step < bound) done
  pub sorted : AreSortedFrom bound rest
  pub within : bound ≤ length a.wiring.now.ports
  pub touched_are : touched ≡ filter (is_told a s e) (range_with_len 0 bound)
  pub told : (c : ℕ) → c < bound → is_told a s e c ≡ true → HoldsAt (told_at a s e c) (matcher_at i c) (matcher_at j c)
  pub can : (c : ℕ) → c < bound → is_told a s e c ≡ true → CanShow (matcher_at j c)
  pub beyond : (c : ℕ) → bound ≤ c → matcher_at j c ≡ matcher_at i c
  pub others : (c : ℕ) → is_told a s e c ≡ false → matcher_at j c ≡ matcher_at i c
  pub stays : (c : ℕ) → StaysAt (matcher_at i c) (matcher_at j c)
  pub jobs : known_jobs j ≡ known_jobs i
  pub waiting : waiting_things j ≡ waiting_things i
  pub intaken : AreIntaken j

-- what is so of the other steps once one of them was looked at
pub record Told_at (a : Around) (s : ℕ) (e : Event) (c : ℕ) (j k : Intakes) (before after : List ℕ) : Type 0 where
  pub touched : after ≡ before ++ if_so (is_told a s e c) c
  pub held : is_told a s e c ≡ true → HoldsAt (told_at a s e c) (matcher_at j c) (matcher_at k c)
  pub can : is_told a s e c ≡ true → CanShow (matcher_at k c)
  pub same : is_told a s e c ≡ false → matcher_at k c ≡ matcher_at j c
  pub stays : StaysAt (matcher_at j c) (matcher_at k c)
  pub others : OthersStay c j k
  pub jobs : known_jobs k ≡ known_jobs j
  pub waiting : waiting_things k ≡ waiting_things j
  pub intaken : AreIntaken k

pub at-test : (c d : ℕ) → {C : Type 0} → (c ≡ d → C) → ((c ≡ d → ⊥) → C) → C
at-test zero zero f g = f refl
at-test zero (suc d) f g = g (λ e. omega (arith, e))
at-test (suc c) zero f g = g (λ e. omega (arith, e))
at-test (suc c) (suc d) f g = at-test c d (λ e. f (ap suc e)) (λ ne. g (λ e. ne (omega (arith, e))))

module _ (a : Around) (s : ℕ) (e : Event) (h : IsAround a s e) (i : Intakes) where
  pub telling-none : (touched : List ℕ) (rest : List Wire) → touched ≡ [] → rest ≡ wires_along a s e → AreIntaken i → Telling a s e i i touched rest
  telling-none touched rest t r sound =
      record {
        done = [];
        all = r;
        bound = 0;
        below = tt;
        sorted = subst (AreSortedFrom 0) (sym r) (along-sorted a s e h);
        within = omega arith;
        touched_are = t;
        told = λ c l. none-below c l;
        can = λ c l. none-below c l;
        beyond = λ c l. refl;
        others = λ c f. refl;
        stays = λ c. stays-same (matcher_at i c);
        jobs = refl;
        waiting = refl;
        intaken = sound;
      }

  module _ (j : Intakes) (touched : List ℕ) (rest : List Wire) (v : Telling a s e i j touched rest) where
    -- the next wire feeds step c, and so do n of them
    module _ (c n : ℕ) (d : Wire) (more : 0 < length rest) (first : (get_or rest 0 d).step ≡ c) (run : Each (λ (w : Wire). w.step ≡ c) (take n rest)) (elsewhere : StartsElsewhere c (drop n rest)) where
      from-here : AreSortedFrom c rest
      from-here = subst (λ k. AreSortedFrom k rest) first (sorted-first v.bound rest d v.sorted more)

      behind : AreSortedFrom (c + 1) (drop n rest)
      behind = sorted-behind c rest n from-here run elsewhere

      bound-on : v.bound ≤ c
      bound-on = subst (λ k. v.bound ≤ k) first (first-on rest v.sorted more)
        where
          first-on : (ws : List Wire) → AreSortedFrom v.bound ws → 0 < length ws → v.bound ≤ (get_or ws 0 d).step
          first-on [] h l = none-below 0 l
          first-on (w ∷ ws) h l = h.0

      pub there : c < length a.wiring.now.ports
      there = subst (λ k. k < length a.wiring.now.ports) first (first-in rest (behind-in v.done rest (subst (Each (λ (w : Wire). w.step < length a.wiring.now.ports)) (sym v.all) (along-within a s e h))) more)
        where
          behind-in : (xs ys : List Wire) → Each (λ (w : Wire). w.step < length a.wiring.now.ports) (xs ++ ys) → Each (λ (w : Wire). w.step < length a.wiring.now.ports) ys
          behind-in [] ys h = h
          behind-in (x ∷ xs) ys h = behind-in xs ys h.1

          first-in : (ws : List Wire) → Each (λ (w : Wire). w.step < length a.wiring.now.ports) ws → 0 < length ws → (get_or ws 0 d).step < length a.wiring.now.ports
          first-in [] h l = none-below 0 l
          first-in (w ∷ ws) h l = h.0

      before-c : Each (λ (w : Wire). w.step < c) v.done
      before-c = each-weaken (λ (w : Wire). w.step < v.bound) (λ (w : Wire). w.step < c) (λ w l. omega (arith, l, bound-on)) v.done v.below

      pub ways-here : map way_of (filter is_walked (take n rest)) ≡ ways_at a s c
      ways-here =
          run-ways c v.done (take n rest) (drop n rest) before-c run behind
          ∙ ap (λ l. ways_into c (v.done ++ l)) (take-append-drop n rest)
          ∙ ap (ways_into c) v.all
          ∙ along-ways a s e h c

      -- steps between are told nothing
      between : (k : ℕ) → v.bound ≤ k → k < c → is_told a s e k ≡ false
      between k l m =
          untold a s e h k
          (subst (Each (λ (w : Wire). w.step ≡ k → ⊥)) v.all
          (each-append (λ (w : Wire). w.step ≡ k → ⊥) v.done rest
          (each-weaken (λ (w : Wire). w.step < v.bound) (λ (w : Wire). w.step ≡ k → ⊥) (λ w b f. omega (arith, b, f, l)) v.done v.below)
          (each-weaken (λ (w : Wire). c ≤ w.step) (λ (w : Wire). w.step ≡ k → ⊥) (λ w b f. omega (arith, b, f, m)) rest (sorted-each c rest from-here))))

      pub not-yet : matcher_at j c ≡ matcher_at i c
      not-yet = v.beyond c bound-on

      pub telling-more : (k : Intakes) (after : List ℕ) → Told_at a s e c j k touched after → Telling a s e i k after (drop n rest)
      telling-more k after t =
          record {
            done = v.done ++ take n rest;
            all = append_assoc v.done (take n rest) (drop n rest) ∙ ap (λ l. v.done ++ l) (take-append-drop n rest) ∙ v.all;
            bound = c + 1;
            below =
                each-append (λ (w : Wire). w.step < c + 1) v.done (take n rest)
                (each-weaken (λ (w : Wire). w.step < c) (λ (w : Wire). w.step < c + 1) (λ w l. omega (arith, l)) v.done before-c)
                (each-weaken (λ (w : Wire). w.step ≡ c) (λ (w : Wire). w.step < c + 1) (λ w l. omega (arith, l)) (take n rest) run);
            sorted = behind;
            within = omega (arith, there);
            touched_are =
                t.touched
                ∙ ap (λ l. l ++ if_so (is_told a s e c) c) (v.touched_are ∙ sym (passing-until (is_told a s e) v.bound c bound-on between))
                ∙ sym (passing-more (is_told a s e) c);
            told = λ x l f.
                at-test x c {C = HoldsAt (told_at a s e x) (matcher_at i x) (matcher_at k x)}
                (λ g. subst (λ y. HoldsAt (told_at a s e y) (matcher_at i y) (matcher_at k y)) (sym g)
                (subst (λ o. HoldsAt (told_at a s e c) o (matcher_at k c)) not-yet (t.held (subst (λ y. is_told a s e y ≡ true) g f))))
                (λ ne. early x (omega (arith, l, ne)) ne f);
            can = λ x l f.
                at-test x c {C = CanShow (matcher_at k x)}
                (λ g. subst (λ y. CanShow (matcher_at k y)) (sym g) (t.can (subst (λ y. is_told a s e y ≡ true) g f)))
                (λ ne. subst CanShow (sym (t.others x ne)) (v.can x (known x (omega (arith, l, ne)) f) f));
            beyond = λ x l. t.others x (λ g. omega (arith, g, l)) ∙ v.beyond x (omega (arith, l, bound-on));
            others = λ x f.
                at-test x c {C = matcher_at k x ≡ matcher_at i x}
                (λ g. subst (λ y. matcher_at k y ≡ matcher_at i y) (sym g) (t.same (subst (λ y. is_told a s e y ≡ false) g f) ∙ not-yet))
                (λ ne. t.others x ne ∙ v.others x f);
            stays = λ x.
                at-test x c {C = StaysAt (matcher_at i x) (matcher_at k x)}
                (λ g. subst (λ y. StaysAt (matcher_at i y) (matcher_at k y)) (sym g) (subst (λ o. StaysAt o (matcher_at k c)) not-yet t.stays))
                (λ ne. subst (StaysAt (matcher_at i x)) (sym (t.others x ne)) (v.stays x));
            jobs = t.jobs ∙ v.jobs;
            waiting = t.waiting ∙ v.waiting;
            intaken = t.intaken;
          }
        where
          known : (x : ℕ) → x < c → is_told a s e x ≡ true → x < v.bound
          known x l f = elim (cases_lt x v.bound) as (λ _. x < v.bound) [ inl p ↦ p | inr p ↦ absurd (both_ways (is_told a s e x) (between x p l) f) ]

          early : (x : ℕ) → x < c → (x ≡ c → ⊥) → is_told a s e x ≡ true → HoldsAt (told_at a s e x) (matcher_at i x) (matcher_at k x)
          early x l ne f = subst (HoldsAt (told_at a s e x) (matcher_at i x)) (sym (t.others x ne)) (v.told x (known x l f) f)

    -- ---- at the end

    module _ (end : length rest ≤ 0) where
      no-more : rest ≡ []
      no-more = by rest end
        where
          by : (ws : List Wire) → length ws ≤ 0 → ws ≡ []
          by [] l = refl
          by (w ∷ ws) l = absurd (omega arith)

      past : (k : ℕ) → v.bound ≤ k → is_told a s e k ≡ false
      past k l =
          untold a s e h k
          (subst (Each (λ (w : Wire). w.step ≡ k → ⊥)) (sym (append-nil v.done) ∙ ap (λ r. v.done ++ r) (sym no-more) ∙ v.all)
          (each-weaken (λ (w : Wire). w.step < v.bound) (λ (w : Wire). w.step ≡ k → ⊥) (λ w b f. omega (arith, b, f, l)) v.done v.below))

      pub told-all : touched ≡ told_steps a s e
      told-all = v.touched_are ∙ sym (passing-until (is_told a s e) v.bound (length a.wiring.now.ports) v.within (λ k l m. past k l))

      pub hold-told : HoldTold a s e i j
      hold-told = record { told = λ c f. v.told c (known c f) f; can = λ c f. v.can c (known c f) f; others = v.others }
        where
          known : (c : ℕ) → is_told a s e c ≡ true → c < v.bound
          known c f = elim (cases_lt c v.bound) as (λ _. c < v.bound) [ inl p ↦ p | inr p ↦ absurd (both_ways (is_told a s e c) (past c p) f) ]

-- a list without a first one has none
pub no-first : (o : Option (Bor Wire)) (ws : List Wire) → option_copied o ≡ slice_get ws 0 → ((w : Bor Wire) → o ≡ Some w → ⊥) → length ws ≤ 0
no-first o [] e n = omega arith
no-first None (w ∷ ws) e n = absurd (cc)
no-first (Some x) (w ∷ ws) e n = absurd (n x refl)
