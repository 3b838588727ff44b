-- A job goes from one stage to another.
use Rattle.std.specs.Prelude.{◌≡◌, ℕ, ◌+◌, ◌-◌, ◌<◌, ◌≤◌, ◌^◌, ◌||◌, if◌then◌else◌, Bool, true, false, List, ◌∷◌, Some, drop, length, map, option_map, slice_get, slice_index_or, slice_set, vec_capacity, refl}
use Rattle.std.specs.List.{insert, list_all, remove}
use mir.Val.{bool_byte}
use Rattle.std.specs.Prelude.{nat_lt}
use Rattle.std.proofs.Common.{arith, ap, subst, sym, ◌∙◌, inl, inr}
use Rattle.std.proofs.lemmas.Option.{slice_get_within}
use Rattle.tv_idle.specs.Listed.{Listed, with_job}
use Rattle.tv_seats.specs.declared.stage.Stage.{Stage}
use Rattle.tv_seats.specs.declared.stage.Stage.TheVariants as stage
use Rattle.tv_seats.specs.declared.steps.StepSeats.{StepSeats}
use Rattle.tv_seats.specs.Firsts.{IsFirstAside, IsFirstIdle, MayGoOut, MayNest}
use Rattle.tv_seats.specs.Kept.{AreApart, AreJobsAt, AreKept, AreNumbersAt, StepIsKept}
use Rattle.tv_seats.specs.Moves.{Enters, HasRoom, HasRoomAt, IsWithOne, IsWithoutFirst, Leaves, MayGoTo, one, rooms_after}
use Rattle.tv_seats.specs.Nested.{StandsBehind}
use Rattle.tv_seats.specs.Seats.{Seat, room_at, stage_at, stands, step_at, with_stage}
use Rattle.tv_seats.specs.Stages.{is_aside, is_idle, is_nested, is_out, is_waiting, may_settle, runs}
use Rattle.tv_seats.specs.Tables.{Rows}
use Rattle.tv_seats.proofs.CallingBack.{seen}
use Rattle.tv_seats.proofs.Keeping.{all-at, is-counted, kept-changed, one-taken, out-fits, out-itself, running-fits, runs-itself, set-kept, stands-there, step-at-read, step-changed, step-there, still-at, still-numbers}
use Rattle.tv_seats.proofs.Listing.{IsFirstAt, first-one, free-at, left-at, left-numbers, many-numbers, placed-put, placed-there, put-at}
use Rattle.tv_seats.proofs.Looking.{numbers-within, placed-among}
use Rattle.tv_seats.proofs.Staging.{some-same}
use Rattle.tv_seats.proofs.Telling.{first-aside-is, first-idle-is}

-- ---- who may

-- in no list but that of open flows, and not there where it is to come there
record IsUnlisted (x w : Stage) : Type 0 where
  idle : is_idle w ≡ true → ⊥
  aside : is_aside w ≡ true → ⊥
  nested : is_nested w ≡ true → is_nested x ≡ false

may-by : (p : Stage → Bool) (x : Stage) → ((w : Stage) → p w ≡ true → IsUnlisted x w) → (seats : List Seat) (n : ℕ) → stands p seats n ≡ true
    → MayGoTo x seats n
may-by p x unlisted seats n h =
    let f = stands-there p seats n h in
    let u = unlisted f.0.stage f.2 in
    record { seat = f.0; there = f.1; idle = λ e. absurd (u.idle e); aside = λ e. absurd (u.aside e); nested = u.nested }

pub settles : (seats : List Seat) (n : ℕ) → stands may_settle seats n ≡ true → MayGoTo stage.Settled seats n
settles seats n h = may-by may_settle stage.Settled by seats n h
  where
    by : (w : Stage) → may_settle w ≡ true → IsUnlisted stage.Settled w
    by stage.Waiting e = record { idle = λ f. cc; aside = λ f. cc; nested = λ f. refl }
    by (stage.Out a t) e = record { idle = λ f. cc; aside = λ f. cc; nested = λ f. refl }
    by (stage.Idle a t) e = cc
    by (stage.Aside a) e = cc
    by (stage.Nested i) e = record { idle = λ f. cc; aside = λ f. cc; nested = λ f. refl }
    by stage.Settled e = cc

pub comes-back : (x : Stage) (seats : List Seat) (n : ℕ) → stands is_out seats n ≡ true → MayGoTo x seats n
comes-back x seats n h = may-by is_out x by seats n h
  where
    by : (w : Stage) → is_out w ≡ true → IsUnlisted x w
    by stage.Waiting e = cc
    by (stage.Out a t) e = record { idle = λ f. cc; aside = λ f. cc; nested = λ f. cc }
    by (stage.Idle a t) e = cc
    by (stage.Aside a) e = cc
    by (stage.Nested i) e = cc
    by stage.Settled e = cc

begins : (x : Stage) (seats : List Seat) (n : ℕ) → stands is_waiting seats n ≡ true → MayGoTo x seats n
begins x seats n h = may-by is_waiting x by seats n h
  where
    by : (w : Stage) → is_waiting w ≡ true → IsUnlisted x w
    by stage.Waiting e = record { idle = λ f. cc; aside = λ f. cc; nested = λ f. cc }
    by (stage.Out a t) e = cc
    by (stage.Idle a t) e = cc
    by (stage.Aside a) e = cc
    by (stage.Nested i) e = cc
    by stage.Settled e = cc

-- no stage is two of these
not-both : (w : Stage) → (is_idle w ≡ true → is_aside w ≡ true → ⊥) × (is_aside w ≡ true → is_nested w ≡ true → ⊥)
not-both stage.Waiting = (λ e f. cc, λ e f. cc)
not-both (stage.Out a t) = (λ e f. cc, λ e f. cc)
not-both (stage.Idle a t) = (λ e f. cc, λ e f. cc)
not-both (stage.Aside a) = (λ e f. cc, λ e f. cc)
not-both (stage.Nested i) = (λ e f. cc, λ e f. cc)
not-both stage.Settled = (λ e f. cc, λ e f. cc)

pub goes-out : (a b : ℕ) (seats : List Seat) (n : ℕ) → MayGoOut seats n → MayGoTo (stage.Out a b) seats n
goes-out a b seats n may =
    elim may [
      | inl h ↦ begins (stage.Out a b) seats n h
      | inr h ↦
          let f = h.1 in
          record {
            seat = f.seat;
            there = f.is.there;
            idle = λ e. (subst (λ k. IsFirstIdle seats k n) (sym f.is.of_step) f, refl);
            aside = λ e. absurd ((not-both f.seat.stage).0 f.is.idle e);
            nested = λ e. refl;
          }
    ]

pub opens : (i : ℕ) (seats : List Seat) (n : ℕ) → MayNest seats n → MayGoTo (stage.Nested i) seats n
opens i seats n may =
    elim may [
      | inl h ↦ begins (stage.Nested i) seats n h
      | inr h ↦
          let f = h.1 in
          record {
            seat = f.seat;
            there = f.is.there;
            idle = λ e. absurd ((not-both f.seat.stage).0 e f.is.aside);
            aside = λ e. (subst (λ k. IsFirstAside seats k n) (sym f.is.of_step) f, refl);
            nested = λ e. absurd ((not-both f.seat.stage).1 f.is.aside e);
          }
    ]

-- ---- the lists of its step

module _ (seats : List Seat) (n : ℕ) (s : Seat) (x : Stage) (there : slice_get seats n ≡ Some s) (apart : AreApart seats) where
  abbrev after : List Seat
  after = with_stage n x seats

  -- those at a stage: the job goes, comes, or was and is somewhere else
  listed : (p : Stage → Bool) (y m z : Listed) → IsWithoutFirst (p s.stage) y m → IsWithOne (p x) (n, s.place) m z
      → (p s.stage ≡ true → IsFirstAt p seats s.step n × (p x ≡ false))
      → AreJobsAt p seats s.step y.jobs → AreJobsAt p after s.step z.jobs
  listed p y m z left come first a = by (p s.stage) refl (p x) refl left.jobs come.jobs
    where
      by : (was : Bool) → p s.stage ≡ was → (is : Bool) → p x ≡ is
          → m.jobs ≡ (if was then drop 1 y.jobs else y.jobs)
          → z.jobs ≡ (if is then with_job (n, s.place) m.jobs else m.jobs)
          → AreJobsAt p after s.step z.jobs
      by true w true i e f = let bad : true ≡ false = sym i ∙ (first w).1 in cc
      by true w false i e f =
          let g = (first w).0 in
          let rest = first-one p seats s.step n y.jobs a g in
          let same : g.seat ≡ s = some-same (sym g.is.there ∙ there) in
          let jobs : y.jobs ≡ (n, s.place) ∷ rest.0 = rest.1 ∙ ap (λ (u : Seat). (n, u.place) ∷ rest.0) same in
          subst (AreJobsAt p after s.step) (sym (f ∙ e ∙ ap (drop 1) jobs))
          (left-at p seats n s x there s.step ((n, s.place) ∷ rest.0) 0 refl i (subst (AreJobsAt p seats s.step) jobs a))
      by false w true i e f =
          subst (AreJobsAt p after s.step) (sym (f ∙ ap (with_job (n, s.place)) e))
          (put-at p seats n s x there s.step y.jobs refl w i apart a)
      by false w false i e f = still-at seats n s x there p y.jobs z.jobs (f ∙ e) w i a

  -- the open flows
  module _ (ns : List ℕ) (q : ℕ) (a : AreNumbersAt is_nested seats s.step ns) where
    -- the job stands at its position, where its flow is open
    stands-at : is_nested s.stage ≡ true → StandsBehind seats ns n q → slice_get a.jobs q ≡ Some (n, s.place)
    stands-at w behind =
        placed-there a.jobs q (n, s.place) a.are.in_order
        (a.are.all (n, s.place) (s, record { there = there; of_step = refl; stands = w }, refl))
        (placed-among is_nested seats s.step ns a n s q there behind)

    position-inside : is_nested s.stage ≡ true → StandsBehind seats ns n q → q < length ns
    position-inside w behind =
        let h = slice_get_within a.jobs q (n, s.place) (stands-at w behind) in
        let b = ap length a.numbers ∙ many-numbers a.jobs in
        omega (arith, h, b)

    numbered : (ms ls : List ℕ) → ms ≡ (if is_nested s.stage then remove ns q else ns) → ls ≡ (if is_nested x then insert ms q n else ms)
        → (is_nested s.stage ≡ true → is_nested x ≡ false)
        → ((is_nested s.stage || is_nested x) ≡ true → StandsBehind seats ns n q)
        → AreNumbersAt is_nested after s.step ls
    numbered ms ls left come other behind = by (is_nested s.stage) refl (is_nested x) refl left come behind
      where
        by : (was : Bool) → is_nested s.stage ≡ was → (is : Bool) → is_nested x ≡ is
            → ms ≡ (if was then remove ns q else ns)
            → ls ≡ (if is then insert ms q n else ms)
            → ((was || is) ≡ true → StandsBehind seats ns n q)
            → AreNumbersAt is_nested after s.step ls
        by true w true i e f b = let bad : true ≡ false = sym i ∙ other w in cc
        by true w false i e f b = record {
          jobs = remove a.jobs q;
          numbers = f ∙ e ∙ ap (λ ns. remove ns q) a.numbers ∙ left-numbers a.jobs q;
          are = left-at is_nested seats n s x there s.step a.jobs q (stands-at w (b refl)) i a.are;
        }
        by false w true i e f b =
            let long = ap length a.numbers ∙ many-numbers a.jobs in
            let inside = (b refl).inside in
            record {
              jobs = with_job (n, s.place) a.jobs;
              numbers =
                  f ∙ ap (λ ns. insert ns q n) (e ∙ a.numbers)
                  ∙ placed-put a.jobs q (n, s.place) (omega (arith, long, inside))
                  (placed-among is_nested seats s.step ns a n s q there (b refl))
                  (free-at is_nested seats n s x there s.step a.jobs refl w apart a.are);
              are = put-at is_nested seats n s x there s.step a.jobs refl w i apart a.are;
            }
        by false w false i e f b = still-numbers seats n s x there is_nested ns ls (f ∙ e) w i a

-- ---- the move

-- a job of the table may go there; its stage was read, and its step
pub record Goes (t : Rows) (steps : List StepSeats) (out n : ℕ) (x w : Stage) (k : ℕ) (y : StepSeats) : Type 0 where
  pub kept : AreKept t steps out
  pub may : MayGoTo x t.seats n
  pub number : k ≡ step_at t.seats n
  pub stage : Some w ≡ stage_at t.seats n
  pub read : y ≡ slice_index_or steps k y

module _ {t : Rows} {steps : List StepSeats} {out n : ℕ} {x w : Stage} {k : ℕ} {y : StepSeats} (g : Goes t steps out n x w k y) where
  abbrev s : Seat
  s = g.may.seat

  abbrev there : slice_get t.seats n ≡ Some s
  there = g.may.there

  was : w ≡ s.stage
  was = some-same (g.stage ∙ ap (option_map (λ (s : Seat). s.stage)) there)

  step : slice_get steps s.step ≡ Some y
  step = step-at-read t steps out g.kept n s there k g.number y g.read

  number : k ≡ s.step
  number = g.number ∙ step-there t.seats n s there

  is-kept : StepIsKept t.seats s.step y
  is-kept = g.kept.each s.step y step

  pub capacity : length y.nested.items + y.nested_room ≤ vec_capacity y.nested
  capacity = is-kept.room

  pub within : list_all (λ n. nat_lt n (length t.seats)) y.nested.items ≡ true
  within = numbers-within is_nested t.seats s.step y.nested.items is-kept.nested

  -- ---- it leaves

  pub leaves-running : one (runs w) ≤ y.running
  leaves-running = subst (λ v. one (runs v) ≤ y.running) (sym was) (runs-itself t steps out g.kept n s there y step)

  pub leaves-out : one (is_out w) ≤ y.out
  leaves-out = subst (λ v. one (is_out v) ≤ y.out) (sym was) (out-itself t steps out g.kept n s there y step)

  pub counted : one (is_out w) ≤ out
  counted = subst (λ v. one (is_out v) ≤ out) (sym was) (is-counted t steps out g.kept n s there)

  module _ (q : ℕ) (behind : (is_nested w || is_nested x) ≡ true → StandsBehind t.seats y.nested.items n q) where
    stands-behind : (is_nested s.stage || is_nested x) ≡ true → StandsBehind t.seats y.nested.items n q
    stands-behind e = behind (ap (λ v. is_nested v || is_nested x) was ∙ e)

    pub leaves-inside : is_nested w ≡ true → q < length y.nested.items
    leaves-inside e =
        position-inside t.seats n s x there g.kept.apart y.nested.items q is-kept.nested (ap is_nested (sym was) ∙ e)
        (behind (ap (λ b. b || is_nested x) e))

    -- ---- it enters

    module _ {m : StepSeats} (left : Leaves w q y m) where
      pub enters-running : m.running + one (runs x) < 2 ^ 32
      enters-running =
          let a = running-fits t steps out g.kept n s there y step x in
          let b = left.running in
          let c = ap (λ v. one (runs v)) was in
          omega (arith, a, b, c)

      pub enters-out : m.out + one (is_out x) < 2 ^ 32
      enters-out =
          let a = out-fits t steps out g.kept n s there y step x in
          let b = left.out in
          let c = ap (λ v. one (is_out v)) was in
          omega (arith, a, b, c)

      pub enters-inside : is_nested x ≡ true → q ≤ length m.nested.items
      enters-inside e = by (is_nested w) refl left.nested
        where
          by : (b : Bool) → is_nested w ≡ b → m.nested.items ≡ (if b then remove y.nested.items q else y.nested.items) → q ≤ length m.nested.items
          by true f h = let bad : true ≡ false = sym e ∙ g.may.nested (ap is_nested (sym was) ∙ f) in cc
          by false f h = subst (λ l. q ≤ length l) (sym h) (behind (ap (λ b. b || is_nested x) f ∙ e)).inside

      pub enters-levels : (place : List ℕ) → Some place ≡ option_map (λ s. s.place) (slice_get t.seats n)
          → (length place ≡ m.idle.levels) × (length place ≡ m.aside.levels)
      enters-levels place e =
          let same : place ≡ s.place = some-same (e ∙ ap (option_map (λ (s : Seat). s.place)) there) in
          let idle =
          ap length same
          ∙ (g.kept.of_steps n s there).1
          ∙ all-at (λ x. x.idle.levels) steps s.step y step
          in (
            idle ∙ sym left.idle.levels,
            idle ∙ sym is-kept.levels ∙ sym left.aside.levels,
          )

      -- there is room for it still
      pub enters-room : HasRoomAt x (seen t steps) (step_at t.seats n) → HasRoom x m
      enters-room = by x
        where
          at : (f : StepSeats → ℕ) → f m ≡ f y → 0 < room_at (map f steps) (step_at t.seats n) → 0 < f m
          at f same h =
              subst (λ r. 0 < r)
              (ap (room_at (map f steps)) (step-there t.seats n s there) ∙ all-at f steps s.step y step ∙ sym same)
              h

          by : (x : Stage) → HasRoomAt x (seen t steps) (step_at t.seats n) → HasRoom x m
          by stage.Waiting h = h
          by (stage.Out a b) h = h
          by (stage.Idle a b) h = at (λ x. x.idle.room) left.idle.room h
          by (stage.Aside a) h = at (λ x. x.aside.room) left.aside.room h
          by (stage.Nested i) h = at (λ x. x.nested_room) left.nested_room h
          by stage.Settled h = h

      -- ---- afterwards

      module _ {place : List ℕ} (at : Some place ≡ option_map (λ s. s.place) (slice_get t.seats n)) {z : StepSeats} (come : Enters x (n, place) q m z) where
        here : place ≡ s.place
        here = some-same (at ∙ ap (option_map (λ (s : Seat). s.place)) there)

        step-is-kept : StepIsKept (with_stage n x t.seats) s.step z
        step-is-kept =
            let l = subst (λ v. Leaves v q y m) was left in
            let e = subst (λ p. Enters x (n, p) q m z) here come in
            let k = is-kept in
            step-changed t.seats n s x there y z k
            (listed t.seats n s x there g.kept.apart is_idle y.idle m.idle z.idle l.idle e.idle
            (λ h. (first-idle-is t.seats s.step n (g.may.idle h).0, (g.may.idle h).1)) k.idle)
            (listed t.seats n s x there g.kept.apart is_aside y.aside m.aside z.aside l.aside e.aside
            (λ h. (first-aside-is t.seats s.step n (g.may.aside h).0, (g.may.aside h).1)) k.aside)
            (numbered t.seats n s x there g.kept.apart y.nested.items q k.nested m.nested.items z.nested.items l.nested e.nested g.may.nested
            stands-behind)
            (e.aside.levels ∙ l.aside.levels ∙ k.levels ∙ sym (e.idle.levels ∙ l.idle.levels))
            e.capacity
            (let a = l.running in let b = e.running in omega (arith, a, b))
            (let a = l.out in let b = e.out in omega (arith, a, b))

        pub goes-kept : (u : Rows) (more : ℕ) → u.seats ≡ with_stage n x t.seats → u.widest ≡ t.widest → u.room ≡ t.room
            → more + one (is_out w) ≡ out + one (is_out x)
            → AreKept u (slice_set steps k z) more
        goes-kept u more seats widest room outs =
            kept-changed t u n s x steps (slice_set steps k z) y z out more
            (record {
              there = there;
              seats = seats;
              widest = widest;
              room = room;
              step = step;
              steps_are = ap (λ k. slice_set steps k z) number;
              levels = come.idle.levels ∙ left.idle.levels;
            })
            g.kept step-is-kept
            (ap (λ v. more + one (is_out v)) (sym was) ∙ outs)

        same-of-all : (f : StepSeats → ℕ) → f z ≡ f y → map f (slice_set steps k z) ≡ map f steps
        same-of-all f same = ap (λ k. map f (slice_set steps k z)) number ∙ set-kept f steps s.step y z step same

        pub levels-after : map (λ x. x.idle.levels) (slice_set steps k z) ≡ map (λ x. x.idle.levels) steps
        levels-after = same-of-all (λ x. x.idle.levels) (come.idle.levels ∙ left.idle.levels)

        rooms : (f : StepSeats → ℕ) (is : Bool) → f z ≡ (if is then f m - 1 else f m) → f m ≡ f y
            → map f (slice_set steps k z) ≡ rooms_after is (step_at t.seats n) (map f steps)
        rooms f true less same =
            one-taken f t steps out g.kept n s there k g.number y z step (less ∙ ap (λ r. r - 1) same)
        rooms f false less same = same-of-all f (less ∙ same)

        pub back_rooms-after : map (λ x. x.idle.room) (slice_set steps k z) ≡ rooms_after (is_idle x) (step_at t.seats n) (map (λ x. x.idle.room) steps)
        back_rooms-after = rooms (λ x. x.idle.room) (is_idle x) come.idle.room left.idle.room

        pub aside_rooms-after : map (λ x. x.aside.room) (slice_set steps k z) ≡ rooms_after (is_aside x) (step_at t.seats n) (map (λ x. x.aside.room) steps)
        aside_rooms-after = rooms (λ x. x.aside.room) (is_aside x) come.aside.room left.aside.room

        pub nested_rooms-after : map (λ x. x.nested_room) (slice_set steps k z) ≡ rooms_after (is_nested x) (step_at t.seats n) (map (λ x. x.nested_room) steps)
        nested_rooms-after = rooms (λ x. x.nested_room) (is_nested x) come.nested_room left.nested_room

pub byte-one : (w : Bool) → bool_byte w ≡ one w
byte-one true = refl
byte-one false = refl
