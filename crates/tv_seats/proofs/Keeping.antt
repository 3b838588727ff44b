-- What is kept beside the seats, where one seat stands at another stage, or one more sits down.
use Rattle.std.specs.Prelude.{◌≡◌, ◌≢◌, ℕ, zero, suc, ◌+◌, ◌-◌, ◌<◌, ◌≤◌, ◌^◌, ◌&&◌, ◌==◌, Bool, true, false, List, [], ◌∷◌, Option, Some, None, length, map, slice_get, slice_index_or, slice_set, vec_capacity, refl}
use Rattle.std.specs.Option.{option_map_or}
use Rattle.std.proofs.Common.{arith, ap, subst, sym, ◌∙◌}
use Rattle.std.proofs.lemmas.Bool.{eq-eqb, eqb-true}
use Rattle.std.proofs.lemmas.List.Sums.{count_by-le-length}
use Rattle.std.proofs.lemmas.Option.{slice_get_read}
use Rattle.tv_seats.specs.declared.stage.Stage.{Stage}
use Rattle.tv_seats.specs.declared.stage.Stage.TheVariants as stage
use Rattle.tv_seats.specs.declared.steps.StepSeats.{StepSeats}
use Rattle.tv_seats.specs.Kept.{AreApart, AreJobsAt, AreKept, AreNumbersAt, AreOfSteps, StepIsKept, all_levels, all_rooms}
use Rattle.tv_seats.specs.Seats.{Seat, count_at, levels_of, one_less, room_at, seats_out, staged, stands, step_at, with_stage}
use Rattle.tv_seats.specs.Stages.{is_aside, is_idle, is_nested, is_out, runs}
use Rattle.tv_seats.specs.Tables.{Rows}
use Rattle.tv_seats.proofs.Staging.{by-same, one, set-here, set-other, some-same, staged-count, staged-here, staged-long, staged-other}
use Rattle.tv_seats.proofs.Listing.{same-at, same-numbers}

-- ---- looking up

-- the seat that stands so
pub stands-there : (is : Stage → Bool) (seats : List Seat) (n : ℕ) → stands is seats n ≡ true
    → (s : Seat) × (slice_get seats n ≡ Some s) × (is s.stage ≡ true)
stands-there is seats n h = by (slice_get seats n) refl h
  where
    by : (o : Option Seat) → slice_get seats n ≡ o → option_map_or (λ s. is s.stage) o false ≡ true
        → (s : Seat) × (slice_get seats n ≡ Some s) × (is s.stage ≡ true)
    by None e h = cc
    by (Some s) e h = (s, e, h)

pub step-there : (seats : List Seat) (n : ℕ) (s : Seat) → slice_get seats n ≡ Some s → step_at seats n ≡ s.step
step-there seats n s e = ap (λ o. option_map_or (λ s. s.step) o 0) e

-- ---- the steps

-- what is the same of the new one is the same of all
pub set-kept : (f : StepSeats → ℕ) (xs : List StepSeats) (k : ℕ) (y z : StepSeats) → slice_get xs k ≡ Some y → f z ≡ f y → map f (slice_set xs k z) ≡ map f xs
set-kept f [] k y z e h = refl
set-kept f (x ∷ xs) zero y z e h = ap (λ n. n ∷ map f xs) (h ∙ ap f (sym (some-same e)))
set-kept f (x ∷ xs) (suc k) y z e h = ap (λ l. f x ∷ l) (set-kept f xs k y z e h)

pub set-levels : (xs : List StepSeats) (k : ℕ) (y z : StepSeats) → slice_get xs k ≡ Some y → z.idle.levels ≡ y.idle.levels → all_levels (slice_set xs k z) ≡ all_levels xs
set-levels = set-kept (λ x. x.idle.levels)

pub same-rooms : (xs : List StepSeats) (k : ℕ) (y z : StepSeats) → slice_get xs k ≡ Some y → z.idle.room ≡ y.idle.room → all_rooms (slice_set xs k z) ≡ all_rooms xs
same-rooms = set-kept (λ x. x.idle.room)

pub set-all : (f : StepSeats → ℕ) (xs : List StepSeats) (k : ℕ) (z : StepSeats) → map f (slice_set xs k z) ≡ slice_set (map f xs) k (f z)
set-all f [] k z = refl
set-all f (x ∷ xs) zero z = refl
set-all f (x ∷ xs) (suc k) z = ap (λ l. f x ∷ l) (set-all f xs k z)

pub set-rooms : (xs : List StepSeats) (k : ℕ) (z : StepSeats) → all_rooms (slice_set xs k z) ≡ slice_set (all_rooms xs) k z.idle.room
set-rooms = set-all (λ x. x.idle.room)

pub all-at : (f : StepSeats → ℕ) (xs : List StepSeats) (k : ℕ) (y : StepSeats) → slice_get xs k ≡ Some y → slice_index_or (map f xs) k 0 ≡ f y
all-at f [] k y e = cc
all-at f (x ∷ xs) zero y e = ap f (some-same e)
all-at f (x ∷ xs) (suc k) y e = all-at f xs k y e

pub many-all : (f : StepSeats → ℕ) (xs : List StepSeats) → length (map f xs) ≡ length xs
many-all f [] = refl
many-all f (x ∷ xs) = ap suc (many-all f xs)

pub many-levels : (xs : List StepSeats) → length (all_levels xs) ≡ length xs
many-levels = many-all (λ x. x.idle.levels)

-- ---- one seat stands at another stage

module _ (seats : List Seat) (n : ℕ) (s : Seat) (x : Stage) (there : slice_get seats n ≡ Some s) where
  abbrev after : List Seat
  after = with_stage n x seats

  -- the same job
  seat-before : (m : ℕ) (t : Seat) → slice_get after m ≡ Some t → (u : Seat) × (slice_get seats m ≡ Some u) × (t.step ≡ u.step) × (t.place ≡ u.place)
  seat-before m t e =
      by-same seats n s x there m
      (λ ne. (t, sym (staged-other seats n s x there m ne) ∙ e, refl, refl))
      (λ is.
      let at : t ≡ staged x s = sym (some-same (sym (staged-here seats n s x there) ∙ (ap (slice_get after) (sym is) ∙ e))) in
      (s, ap (slice_get seats) is ∙ there, ap (λ (t : Seat). t.step) at, ap (λ (t : Seat). t.place) at))

  still-apart : AreApart seats → AreApart after
  still-apart a m l t u e f step place =
      let b = seat-before m t e in
      let c = seat-before l u f in
      a m l b.0 c.0 b.1 c.1 (sym b.2 ∙ step ∙ c.2) (sym b.3 ∙ place ∙ c.3)

  still-of-steps : (levels : List ℕ) → AreOfSteps levels seats → AreOfSteps levels after
  still-of-steps levels a m t e =
      let b = seat-before m t e in
      let c = a m b.0 b.1 in (
        subst (λ k. k < length levels) (sym b.2) c.0,
        ap length b.3 ∙ c.1 ∙ ap (levels_of levels) (sym b.2),
      )

  pub count-after : (p : Stage → Bool) (k : ℕ) → count_at p k after + one ((s.step == k) && p s.stage) ≡ count_at p k seats + one ((s.step == k) && p x)
  count-after p k = staged-count seats n s x there (λ (t : Seat). (t.step == k) && p t.stage)

  pub count-here : (p : Stage → Bool) → count_at p s.step after + one (p s.stage) ≡ count_at p s.step seats + one (p x)
  count-here p =
      let e : (s.step == s.step) ≡ true = eq-eqb s.step s.step refl in
      ap (λ b. count_at p s.step after + one (b && p s.stage)) (sym e)
      ∙ count-after p s.step
      ∙ ap (λ b. count_at p s.step seats + one (b && p x)) e

  -- a list of its step that doesn't change
  pub still-at : (p : Stage → Bool) (js ks : List (ℕ × List ℕ)) → ks ≡ js → p s.stage ≡ false → p x ≡ false
      → AreJobsAt p seats s.step js → AreJobsAt p after s.step ks
  still-at p js ks same was becomes a =
      subst (AreJobsAt p after s.step) (sym same) (same-at p seats n s x there s.step js (λ e. was) (λ e. becomes) a)

  pub still-numbers : (p : Stage → Bool) (ns ms : List ℕ) → ms ≡ ns → p s.stage ≡ false → p x ≡ false
      → AreNumbersAt p seats s.step ns → AreNumbersAt p after s.step ms
  still-numbers p ns ms same was becomes a =
      subst (AreNumbersAt p after s.step) (sym same) (same-numbers p seats n s x there s.step ns (λ e. was) (λ e. becomes) a)

  -- at its step
  pub step-changed : (y z : StepSeats) → StepIsKept seats s.step y
      → AreJobsAt is_idle after s.step z.idle.jobs
      → AreJobsAt is_aside after s.step z.aside.jobs
      → AreNumbersAt is_nested after s.step z.nested.items
      → z.aside.levels ≡ z.idle.levels
      → length z.nested.items + z.nested_room ≤ vec_capacity z.nested
      → z.running + one (runs s.stage) ≡ y.running + one (runs x)
      → z.out + one (is_out s.stage) ≡ y.out + one (is_out x)
      → StepIsKept after s.step z
  step-changed y z kept idle aside nested levels room running out = record {
    idle = idle;
    aside = aside;
    nested = nested;
    levels = levels;
    room = room;
    running =
        let a = count-here runs in
        let b = kept.running in
        omega (arith, a, b, running);
    out =
        let a = count-here is_out in
        let b = kept.out in
        omega (arith, a, b, out);
  }

  -- at another
  step-other : (k : ℕ) (y : StepSeats) → s.step ≢ k → StepIsKept seats k y → StepIsKept after k y
  step-other k y ne kept = record {
    idle = same-at is_idle seats n s x there k y.idle.jobs (λ e. absurd (ne e)) (λ e. absurd (ne e)) kept.idle;
    aside = same-at is_aside seats n s x there k y.aside.jobs (λ e. absurd (ne e)) (λ e. absurd (ne e)) kept.aside;
    nested = same-numbers is_nested seats n s x there k y.nested.items (λ e. absurd (ne e)) (λ e. absurd (ne e)) kept.nested;
    levels = kept.levels;
    room = kept.room;
    running = let a = at_other runs in let b = kept.running in omega (arith, a, b);
    out = let a = at_other is_out in let b = kept.out in omega (arith, a, b);
  }
    where
      at_other : (p : Stage → Bool) → count_at p k after ≡ count_at p k seats
      at_other p = by (s.step == k) refl (count-after p k)
        where
          by : (b : Bool) → (s.step == k) ≡ b → count_at p k after + one (b && p s.stage) ≡ count_at p k seats + one (b && p x) → count_at p k after ≡ count_at p k seats
          by true e h = absurd (ne (eqb-true s.step k e))
          by false e h = omega (arith, h)

-- the table t becomes u, of its step y becomes z
pub record Changes (t u : Rows) (n : ℕ) (s : Seat) (x : Stage) (steps after : List StepSeats) (y z : StepSeats) : Type 0 where
  pub there : slice_get t.seats n ≡ Some s
  pub seats : u.seats ≡ with_stage n x t.seats
  pub widest : u.widest ≡ t.widest
  pub room : u.room ≡ t.room
  pub step : slice_get steps s.step ≡ Some y
  pub steps_are : after ≡ slice_set steps s.step z
  pub levels : z.idle.levels ≡ y.idle.levels

pub kept-changed : (t u : Rows) (n : ℕ) (s : Seat) (x : Stage) (steps after : List StepSeats) (y z : StepSeats) (out more : ℕ)
    → Changes t u n s x steps after y z
    → AreKept t steps out
    → StepIsKept (with_stage n x t.seats) s.step z
    → more + one (is_out s.stage) ≡ out + one (is_out x)
    → AreKept u after more
kept-changed t u n s x steps after y z out more c kept step outs = record {
  each = λ k w e.
      subst (λ l. StepIsKept l k w) (sym c.seats)
      (by (k == s.step) refl w (sym (ap (λ l. slice_get l k) c.steps_are) ∙ e));
  of_steps =
      subst (λ l. AreOfSteps l u.seats) (sym levels)
      (subst (AreOfSteps (all_levels steps)) (sym c.seats) (still-of-steps t.seats n s x c.there (all_levels steps) kept.of_steps));
  apart = subst AreApart (sym c.seats) (still-apart t.seats n s x c.there kept.apart);
  wide = λ k.
      subst (λ w. levels_of (all_levels after) k ≤ w) (sym c.widest)
      (subst (λ l. levels_of l k ≤ t.widest) (sym levels) (kept.wide k));
  outs =
      let a = staged-count t.seats n s x c.there (λ (t : Seat). is_out t.stage) in
      let b = kept.outs in
      let e = ap seats_out c.seats in
      omega (arith, a, b, e, outs);
  numbers =
      let a = kept.numbers in
      let b = ap length c.seats ∙ staged-long t.seats n s x c.there in
      let r = c.room in
      omega (arith, a, b, r);
}
  where
    levels : all_levels after ≡ all_levels steps
    levels = ap all_levels c.steps_are ∙ set-levels steps s.step y z c.step c.levels

    by : {k : ℕ} (b : Bool) → (k == s.step) ≡ b → (w : StepSeats) → slice_get (slice_set steps s.step z) k ≡ Some w → StepIsKept (with_stage n x t.seats) k w
    by {k} true e w h =
        let is : k ≡ s.step = eqb-true k s.step e in
        let at : w ≡ z = sym (some-same (sym (set-here steps s.step y z c.step) ∙ (ap (slice_get (slice_set steps s.step z)) (sym is) ∙ h))) in
        subst (λ l. StepIsKept (with_stage n x t.seats) l w) (sym is)
        (subst (StepIsKept (with_stage n x t.seats) s.step) (sym at) step)
    by {k} false e w h =
        let ne : k ≢ s.step = λ is. let f : false ≡ true = sym e ∙ eq-eqb k s.step is in cc in
        step-other t.seats n s x c.there k w (λ is. ne (sym is))
        (kept.each k w (sym (set-other steps s.step k z ne) ∙ h))

-- ---- what is known of a seat's step

module _ (t : Rows) (steps : List StepSeats) (out : ℕ) (kept : AreKept t steps out) (n : ℕ) (s : Seat) (there : slice_get t.seats n ≡ Some s) where
  pub inside : s.step < length steps
  inside = let a = (kept.of_steps n s there).0 in let b = many-levels steps in omega (arith, a, b)

  pub step-read : (y : StepSeats) → y ≡ slice_index_or steps s.step y → slice_get steps s.step ≡ Some y
  step-read y e = slice_get_read steps (length steps) s.step y refl inside e

  -- where its step's number was read off the seats
  pub step-at-read : (k : ℕ) → k ≡ step_at t.seats n → (y : StepSeats) → y ≡ slice_index_or steps k y → slice_get steps s.step ≡ Some y
  step-at-read k e y f = step-read y (f ∙ ap (λ k. slice_index_or steps k y) (e ∙ step-there t.seats n s there))

  module _ (y : StepSeats) (step : slice_get steps s.step ≡ Some y) where
    -- the counts fit whatever it comes to
    counted-fits : (p : Stage → Bool) (x : Stage) → count_at p s.step t.seats + one (p x) < 2 ^ 32 + one (p s.stage)
    counted-fits p x =
        let a = count-here t.seats n s x there p in
        let b = count_by-le-length (λ (t : Seat). (t.step == s.step) && p t.stage) (with_stage n x t.seats) in
        let c = staged-long t.seats n s x there in
        let d = kept.numbers in
        omega (arith, a, b, c, d)

    pub running-fits : (x : Stage) → y.running + one (runs x) < 2 ^ 32 + one (runs s.stage)
    running-fits x = let a = counted-fits runs x in let b = (kept.each s.step y step).running in omega (arith, a, b)

    pub out-fits : (x : Stage) → y.out + one (is_out x) < 2 ^ 32 + one (is_out s.stage)
    out-fits x = let a = counted-fits is_out x in let b = (kept.each s.step y step).out in omega (arith, a, b)

    -- it is counted itself
    pub runs-itself : one (runs s.stage) ≤ y.running
    runs-itself =
        let a = count-here t.seats n s stage.Settled there runs in
        let b = (kept.each s.step y step).running in
        omega (arith, a, b)

    pub out-itself : one (is_out s.stage) ≤ y.out
    out-itself =
        let a = count-here t.seats n s stage.Settled there is_out in
        let b = (kept.each s.step y step).out in
        omega (arith, a, b)

  pub is-counted : one (is_out s.stage) ≤ out
  is-counted =
      let a = staged-count t.seats n s stage.Settled there (λ (t : Seat). is_out t.stage) in
      let b = kept.outs in
      omega (arith, a, b)

-- ---- rooms

-- one room less of its step
pub one-taken : (f : StepSeats → ℕ) (t : Rows) (steps : List StepSeats) (out : ℕ) (kept : AreKept t steps out) (n : ℕ) (s : Seat) (there : slice_get t.seats n ≡ Some s)
    → (k : ℕ) → k ≡ step_at t.seats n → (y z : StepSeats) → slice_get steps s.step ≡ Some y → f z ≡ f y - 1
    → map f (slice_set steps k z) ≡ one_less (step_at t.seats n) (map f steps)
one-taken f t steps out kept n s there k is y z step less =
    let at = step-there t.seats n s there in
    set-all f steps k z
    ∙ ap (slice_set (map f steps) k) (less ∙ ap (λ m. m - 1) (sym (all-at f steps s.step y step)))
    ∙ ap (λ k. slice_set (map f steps) k (room_at (map f steps) s.step - 1)) is
    ∙ ap (λ k. slice_set (map f steps) (step_at t.seats n) (room_at (map f steps) k - 1)) (sym at)

-- the same seats with another room
pub roomy-kept : (t u : Rows) (steps : List StepSeats) (out : ℕ) → u.seats ≡ t.seats → u.widest ≡ t.widest → length u.seats + u.room < 2 ^ 32
    → AreKept t steps out → AreKept u steps out
roomy-kept t u steps out seats widest numbers kept = record {
  each = λ k x e. subst (λ ss. StepIsKept ss k x) (sym seats) (kept.each k x e);
  of_steps = subst (AreOfSteps (all_levels steps)) (sym seats) kept.of_steps;
  apart = subst AreApart (sym seats) kept.apart;
  wide = λ k. subst (λ w. levels_of (all_levels steps) k ≤ w) (sym widest) (kept.wide k);
  outs = kept.outs ∙ ap seats_out (sym seats);
  numbers = numbers;
}

pub reserved-kept : (t : Rows) (steps : List StepSeats) (out k : ℕ) (y z : StepSeats) → slice_get steps k ≡ Some y
    → z.idle.levels ≡ y.idle.levels
    → (StepIsKept t.seats k y → StepIsKept t.seats k z)
    → AreKept t steps out
    → AreKept t (slice_set steps k z) out
reserved-kept t steps out k y z step levels keeps kept = record {
  each = λ l w e. by l w (l == k) refl e;
  of_steps = subst (λ ls. AreOfSteps ls t.seats) (sym same) kept.of_steps;
  apart = kept.apart;
  wide = λ l. subst (λ ls. levels_of ls l ≤ t.widest) (sym same) (kept.wide l);
  outs = kept.outs;
  numbers = kept.numbers;
}
  where
    same : all_levels (slice_set steps k z) ≡ all_levels steps
    same = set-levels steps k y z step levels

    by : (l : ℕ) (w : StepSeats) (b : Bool) → (l == k) ≡ b → slice_get (slice_set steps k z) l ≡ Some w → StepIsKept t.seats l w
    by l w true e h =
        let is : l ≡ k = eqb-true l k e in
        let at : w ≡ z = sym (some-same (sym (set-here steps k y z step) ∙ (ap (slice_get (slice_set steps k z)) (sym is) ∙ h))) in
        subst (λ m. StepIsKept t.seats m w) (sym is) (subst (StepIsKept t.seats k) (sym at) (keeps (kept.each k y step)))
    by l w false e h =
        let ne : l ≢ k = λ is. let f : false ≡ true = sym e ∙ eq-eqb l k is in cc in
        kept.each l w (sym (set-other steps k l z ne) ∙ h)

-- the same jobs with another room
pub roomy-step : (seats : List Seat) (k : ℕ) (y z : StepSeats)
    → z.idle.jobs ≡ y.idle.jobs
    → z.idle.levels ≡ y.idle.levels
    → z.aside.jobs ≡ y.aside.jobs
    → z.aside.levels ≡ y.aside.levels
    → z.nested.items ≡ y.nested.items
    → (length y.nested.items + y.nested_room ≤ vec_capacity y.nested → length z.nested.items + z.nested_room ≤ vec_capacity z.nested)
    → z.running ≡ y.running
    → z.out ≡ y.out
    → StepIsKept seats k y
    → StepIsKept seats k z
roomy-step seats k y z idle levels aside aside_levels nested room running out kept = record {
  idle = subst (AreJobsAt is_idle seats k) (sym idle) kept.idle;
  aside = subst (AreJobsAt is_aside seats k) (sym aside) kept.aside;
  nested = subst (AreNumbersAt is_nested seats k) (sym nested) kept.nested;
  levels = aside_levels ∙ kept.levels ∙ sym levels;
  room = room kept.room;
  running = running ∙ kept.running;
  out = out ∙ kept.out;
}
