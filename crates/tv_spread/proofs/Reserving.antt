-- Rooms of idle jobs, and what is the same where only rooms are others.
use Rattle.std.specs.List.{range_with_len}
use Rattle.std.specs.Prelude.{◌≡◌, ℕ, zero, suc, ◌+◌, ◌<◌, ◌≤◌, Bool, true, false, cond, List, [], ◌∷◌, Option, Some, None, filter, length, map, slice_get, slice_set, sum_by, refl}
use Rattle.std.proofs.Common.{arith, ap, sym, subst, ◌∙◌, length-set, get_or-set_same, get_or-set_other}
use Rattle.tv_lemmas.specs.Members.{Each}
use Rattle.tv_strategy.specs.Conditions.{number_of}
use Rattle.tv_strategy.specs.Measures.{strategy_depth}
use Rattle.tv_strategy.proofs.Each.{each-all, each-weaken}
use Rattle.tv_match.specs.declared.matchers.Matcher.{Matcher}
use Rattle.tv_intake.specs.declared.intakes.Intakes.{Intakes}
use Rattle.tv_intake.specs.Intaken.{AreIntaken, AreSorted, CanShow, HasRoom, IsSame, brought_at, brought_in, known_jobs, matcher_at, placed, thing_in, waiting_things}
use Rattle.tv_intake.specs.Sorting.{jobs_among}
use Rattle.tv_idle.specs.Idles.{Idles, StepIdle, none_idle, of_step, with_rooms_of}
use Rattle.tv_telling.specs.declared.ways.Event.{Event}
use Rattle.tv_spread.specs.declared.around.Around.{Around}
use Rattle.tv_spread.specs.Arounds.{is_told, told_steps}
use Rattle.tv_spread.specs.Spreads.{CanShowAll, HasOtherRooms, HoldTold, IsAscending, IsLevelled, StaysAt, new_count, new_faulty, new_good}
use Rattle.tv_spread.proofs.Lists.{each-filter}
use Rattle.tv_spread.proofs.Holding.{at-test}

-- ---- the same intakes but for room

pub intaken-same : (i j : Intakes) → IsSame i j → AreIntaken i → AreIntaken j
intaken-same i j e h =
    subst (λ ms. AreSorted ms j.jobs.items j.waiting.items) (sym e.matchers)
    (subst (λ l. AreSorted i.matchers.items l j.waiting.items) (sym e.jobs) (subst (AreSorted i.matchers.items i.jobs.items) (sym e.waiting) h))

pub known-same : (i j : Intakes) → IsSame i j → known_jobs j ≡ known_jobs i
known-same i j e = λ k. map (λ f. placed (thing_in (e.matchers k) f)) (e.jobs k)

pub waiting-same : (i j : Intakes) → IsSame i j → waiting_things j ≡ waiting_things i
waiting-same i j e = λ k. map (thing_in (e.matchers k)) (e.waiting k)

pub matcher-same : (i j : Intakes) → IsSame i j → (c : ℕ) → matcher_at j c ≡ matcher_at i c
matcher-same i j e c = ap (λ ms. slice_get ms c) e.matchers

-- ---- idle jobs with other rooms

pub rooms-none : (i : Idles) → HasOtherRooms i i
rooms-none i = record { steps = λ c. refl; as_many = refl; known = refl }

module _ (j k : Idles) (c : ℕ) (within : c < length j.steps) (e : k.steps ≡ slice_set j.steps c (with_rooms_of (of_step k.steps c) (of_step j.steps c))) where
  reserved-own : of_step k.steps c ≡ with_rooms_of (of_step k.steps c) (of_step j.steps c)
  reserved-own = ap (λ l. of_step l c) e ∙ get_or-set_same j.steps c (with_rooms_of (of_step k.steps c) (of_step j.steps c)) (none_idle 0) within

  pub reserved-other : (d : ℕ) → (d ≡ c → ⊥) → of_step k.steps d ≡ of_step j.steps d
  reserved-other d ne = ap (λ l. of_step l d) e ∙ get_or-set_other j.steps c d (with_rooms_of (of_step k.steps c) (of_step j.steps c)) (none_idle 0) ne

  pub reserved-rooms : (i : Idles) → HasOtherRooms i j → k.known ≡ j.known → HasOtherRooms i k
  reserved-rooms i h f =
      record {
        steps = λ d.
            at-test d c {C = of_step k.steps d ≡ with_rooms_of (of_step k.steps d) (of_step i.steps d)}
            (λ g. subst (λ x. of_step k.steps x ≡ with_rooms_of (of_step k.steps x) (of_step i.steps x)) (sym g)
            (reserved-own ∙ ap (with_rooms_of (of_step k.steps c)) (h.steps c)))
            (λ ne. subst (λ o. o ≡ with_rooms_of o (of_step i.steps d)) (sym (reserved-other d ne)) (h.steps d));
        as_many = ap length e ∙ length-set j.steps c (with_rooms_of (of_step k.steps c) (of_step j.steps c)) ∙ h.as_many;
        known = f ∙ h.known;
      }

  -- what is so of steps that have their rooms, where this one has it now
  pub reserved-each : (P : ℕ → StepIdle → Type 0) → P c (of_step k.steps c) → (cs : List ℕ) → Each (λ d. P d (of_step j.steps d)) cs → Each (λ d. P d (of_step k.steps d)) cs
  reserved-each P own cs h =
      each-weaken (λ d. P d (of_step j.steps d)) (λ d. P d (of_step k.steps d))
      (λ d p. at-test d c {C = P d (of_step k.steps d)} (λ g. subst (λ x. P x (of_step k.steps x)) (sym g) own) (λ ne. subst (P d) (sym (reserved-other d ne)) p)) cs h

-- ---- steps in order

range-above : (a n : ℕ) → Each (λ d. a ≤ d) (range_with_len a n)
range-above a zero = tt
range-above a (suc n) = (omega arith, each-weaken (λ d. a + 1 ≤ d) (λ d. a ≤ d) (λ d l. omega (arith, l)) (range_with_len (a + 1) n) (range-above (a + 1) n))

range-below : (a n : ℕ) → Each (λ d. d < a + n) (range_with_len a n)
range-below a zero = tt
range-below a (suc n) = (omega arith, each-weaken (λ d. d < a + 1 + n) (λ d. d < a + suc n) (λ d l. omega (arith, l)) (range_with_len (a + 1) n) (range-below (a + 1) n))

module _ (p : ℕ → Bool) where
  pub passing-ascend : (a n : ℕ) → IsAscending (filter p (range_with_len a n))
  passing-ascend a zero = tt
  passing-ascend a (suc n) = by (p a) (passing-ascend (a + 1) n)
    where
      by : (b : Bool) → IsAscending (filter p (range_with_len (a + 1) n)) → IsAscending (cond b (a ∷ filter p (range_with_len (a + 1) n)) (filter p (range_with_len (a + 1) n)))
      by true r = (each-weaken (λ d. a + 1 ≤ d) (λ d. a < d) (λ d l. omega (arith, l)) (filter p (range_with_len (a + 1) n)) (each-filter (λ d. a + 1 ≤ d) p (range_with_len (a + 1) n) (range-above (a + 1) n)), r)
      by false r = r

  pub passing-below : (n : ℕ) → Each (λ d. d < n) (filter p (range_with_len 0 n))
  passing-below n = each-weaken (λ d. d < 0 + n) (λ d. d < n) (λ d l. omega (arith, l)) (filter p (range_with_len 0 n)) (each-filter (λ d. d < 0 + n) p (range_with_len 0 n) (range-below 0 n))

  pub passing-pass : (xs : List ℕ) → Each (λ d. p d ≡ true) (filter p xs)
  passing-pass [] = tt
  passing-pass (x ∷ xs) = by (p x) refl (passing-pass xs)
    where
      by : (b : Bool) → p x ≡ b → Each (λ d. p d ≡ true) (filter p xs) → Each (λ d. p d ≡ true) (cond b (x ∷ filter p xs) (filter p xs))
      by true e r = (e, r)
      by false e r = r

-- ---- levels stay

pub levels-stay : (o p : Option Matcher) (s t : StepIdle) → StaysAt o p → t ≡ with_rooms_of t s → IsLevelled o s → IsLevelled p t
levels-stay None None s t h e l = tt
levels-stay None (Some n) s t h e l = absurd h
levels-stay (Some m) None s t h e l = absurd h
levels-stay (Some m) (Some n) s t h e l =
    ap (λ (x : StepIdle). x.levels) e
    ∙ l
    ∙ (λ i. strategy_depth (number_of (sym h.0.mismatch i)) (sym h.0.strategy i))

-- ---- the steps that are told something

module _ (a : Around) (s : ℕ) (e : Event) where
  -- each can show what it holds
  pub told-shown : (i j : Intakes) → HoldTold a s e i j → Each (λ c. CanShow (matcher_at j c)) (told_steps a s e)
  told-shown i j h =
      each-weaken (λ c. is_told a s e c ≡ true) (λ c. CanShow (matcher_at j c)) (λ c f. h.can c f) (told_steps a s e)
      (passing-pass (is_told a s e) (range_with_len 0 (length a.wiring.now.ports)))

  pub steps-below : (n : ℕ) → length a.wiring.now.ports ≤ n → Each (λ c. c < n) (told_steps a s e)
  steps-below n l =
      each-weaken (λ c. c < length a.wiring.now.ports) (λ c. c < n) (λ c m. omega (arith, l, m)) (told_steps a s e)
      (passing-below (is_told a s e) (length a.wiring.now.ports))

  -- all is ready to be shown, where `k` has the room for it, `mid` has the rooms of the steps, and `new` that of the numbers
  module _ (i j k : Intakes) (idle mid new : Idles) (held : HoldTold a s e i j) (same : IsSame j k) (stays : (c : ℕ) → StaysAt (matcher_at i c) (matcher_at j c)) where
    module _ (rooms : HasOtherRooms idle mid) (steps : new.steps ≡ mid.steps) (levels : (c : ℕ) → IsLevelled (matcher_at i c) (of_step idle.steps c)) (many : length a.wiring.now.ports ≤ length idle.steps) where
      pub all-ready : HasRoom (sum_by (λ c. length (brought_at j c)) (told_steps a s e)) k → Each (λ c. (of_step mid.steps c).good_room ≡ new_good k c) (told_steps a s e) → Each (λ c. (of_step mid.steps c).faulty_room ≡ new_faulty k c) (told_steps a s e) → new.room ≡ new_count j (told_steps a s e) → CanShowAll (told_steps a s e) k new
      all-ready room good faulty numbers =
          let cs = told_steps a s e in
          record {
            once = passing-ascend (is_told a s e) 0 (length a.wiring.now.ports);
            can = each-weaken (λ c. CanShow (matcher_at j c)) (λ c. CanShow (matcher_at k c)) (λ c h. subst CanShow (sym (matcher-same j k same c)) h) cs (told-shown i j held);
            intake_room = subst (λ ms. HasRoom (sum_by (λ c. length (brought_in ms c)) cs) k) (sym same.matchers) room;
            within =
                let l : length new.steps ≡ length idle.steps = ap length steps ∙ rooms.as_many in
                each-weaken (λ c. c < length idle.steps) (λ c. c < length new.steps) (λ c m. omega (arith, l, m)) cs (steps-below (length idle.steps) many);
            levels =
                each-all (λ c. IsLevelled (matcher_at k c) (of_step new.steps c))
                (λ c. subst (λ ss. IsLevelled (matcher_at k c) (of_step ss c)) (sym steps)
                (subst (λ o. IsLevelled o (of_step mid.steps c)) (sym (matcher-same j k same c))
                (levels-stay (matcher_at i c) (matcher_at j c) (of_step idle.steps c) (of_step mid.steps c) (stays c) (rooms.steps c) (levels c)))) cs;
            good_room =
                each-weaken (λ c. (of_step mid.steps c).good_room ≡ new_good k c) (λ c. new_good k c ≤ (of_step new.steps c).good_room)
                (λ c h. subst (λ ss. new_good k c ≤ (of_step ss c).good_room) (sym steps) (omega (arith, h))) cs good;
            faulty_room =
                each-weaken (λ c. (of_step mid.steps c).faulty_room ≡ new_faulty k c) (λ c. new_faulty k c ≤ (of_step new.steps c).faulty_room)
                (λ c h. subst (λ ss. new_faulty k c ≤ (of_step ss c).faulty_room) (sym steps) (omega (arith, h))) cs faulty;
            numbers =
                let n : new.room ≡ new_count k cs = numbers ∙ ap (λ ms. sum_by (λ c. jobs_among (brought_in ms c)) cs) (sym same.matchers) in
                omega (arith, n);
          }
