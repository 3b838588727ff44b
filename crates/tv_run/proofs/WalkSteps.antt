-- The walk at one step of an open instance: its jobs that pass themselves, and what is found inside the others.
use Rattle.std.specs.Prelude.{◌≡◌, refl, ℕ, ◌+◌, ◌<◌, ◌≤◌, Bool, true, false, IfSome, if◌then◌else◌, nat_lt, List, [], ◌∷◌, None, Option, Some, is_some, length, option_map, slice_get}
use Rattle.std.specs.Option.{option_map_or}
use Rattle.std.proofs.Common.{ap, arith, length-append, subst, sym, ◌∙◌}
use Rattle.std.proofs.lemmas.Bool.{false_from_ne_true, ltb-false, ltb-true}
use Rattle.std.proofs.lemmas.Option.{same_Some, slice_get_within}
use Rattle.tv_lemmas.proofs.Cases.{on_test}
use Rattle.tv_value.specs.Values.{JobName, Name}
use Rattle.tv_gate.specs.Outcomes.{Giving}
use Rattle.tv_flow.specs.Flows.{Step}
use Rattle.tv_check.specs.RunViews.{run_view}
use Rattle.tv_model.specs.Jobs.{Job}
use Rattle.tv_model.proofs.Tests.{true≠false}
use Rattle.tv_history.specs.Entries.{History}
use Rattle.tv_model.specs.JobOrder.{place_before}
use Rattle.tv_instances.specs.FramingViews.{View}
use Rattle.tv_instances.proofs.framing_turns.Ranks.{place-is}
use Rattle.tv_seats.specs.Nested.{AreNested, IsNestedSeat}
use Rattle.tv_seats.specs.Seats.{Seat, place_at, stage_at}
use Rattle.tv_seats.specs.Stages.{is_nested}
use Rattle.tv_seats.specs.declared.stage.Stage.TheVariants as stage
use Rattle.tv_instances.specs.seats.Seated.{spot_of}
use Rattle.tv_instances.specs.Forest.{Instance, Instances, IsAt, IsJobAt, IsOpenAt}
use Rattle.tv_instances.specs.forest_firsts.FirstWithin.{IsFirstWithin}
use Rattle.tv_history.specs.Runs.{past_of}
use Rattle.tv_instances.specs.Firsts.{GoesOnAt, IsFirstAt, asides, stands_before}
use Rattle.tv_instances.specs.declared.firsts.Seeking.{Seeking}
use Rattle.tv_instances.proofs.FirstSeats.{before-chain, before-turned}
use Rattle.tv_run.specs.Jobs.{AreInRun}
use Rattle.tv_run.specs.Looks.{tries_of}
use Rattle.tv_run.specs.Standing.{Stands, numbers_of, run_of}
use Rattle.tv_run.specs.Walking.{IsFoundAtJob, IsFoundAtStep, IsFoundBefore, IsFoundInside, IsFoundOf, IsOwn, IsOwnBegun, StandsBeforeOwn, is_sought, passes}
use Rattle.tv_run.specs.declared.run.OpenRun.{OpenRun}
use Rattle.tv_run.proofs.WalkGoing.{by-passes, may-begin, opens-by, passes-by, passes-shut}
use Rattle.tv_run.proofs.WalkOpen.{job-there, step-there}
use Rattle.tv_run.proofs.WalkPlaces.{before-itself, before-then}

-- nothing is found at the first so many seats of a list
abbrev pub NoneAmong : Giving → OpenRun → Instances → Seeking → ℕ → Instance → List ℕ → ℕ → Type 0
NoneAmong gives r xs k i x ns q =
    (p m : ℕ) (s : Seat) (l : Job) → p < q → slice_get ns p ≡ Some m → IsJobAt gives (run_view r.run) xs i m x s l
    → IsFoundAtJob gives r k l None

pub none-yet : (gives : Giving) (r : OpenRun) (xs : Instances) (k : Seeking) (i : ℕ) (x : Instance) (ns : List ℕ)
    → NoneAmong gives r xs k i x ns 0
none-yet gives r xs k i x ns p m s l low = absurd (omega (arith, low))

-- instance c is open, one deeper than x
pub record IsInner (xs : Instances) (c : ℕ) (x : Instance) : Type 0 where
  pub inner : Instance
  pub view : View
  pub there : IsAt xs c inner
  pub is_open : inner.view ≡ Some view
  pub deep : length inner.name ≡ length x.name + 1

module _ (gives : Giving) (r : OpenRun) (xs : Instances) (st : Stands gives r xs) (i : ℕ) (x : Instance) (v : View)
    (at : IsAt xs i x) (told : x.view ≡ Some v) (k : Seeking) (step : ℕ) where
  abbrev past : History
  past = past_of (run_of r)

  -- job n of the instance is j, whose seat is s
  abbrev Is : ℕ → Seat → Job → Type 0
  Is n s j = IsJobAt gives (run_view r.run) xs i n x s j

  abbrev Found : Job → Option Job → Type 0
  Found j o = IsFoundAtJob gives r k j o

  -- ---- those that pass themselves

  module _ (t : Name × Step) (at_step : slice_get v.flow.steps step ≡ Some t) (limit : ℕ) (same : limit ≡ t.1.jobs) where
    abbrev sought : Bool
    sought = is_sought (tries_of t.1) k

    -- a seat of the step is one of a job that passes
    abbrev Does : Seat → Type 0
    Does = GoesOnAt v x.seats limit (asides k) sought

    step-of : (s : Seat) → s.step ≡ step → slice_get v.flow.steps s.step ≡ Some t
    step-of s e = ap (slice_get v.flow.steps) e ∙ at_step

    passing-does : (n : ℕ) (s : Seat) (j : Job) → Is n s j → s.step ≡ step → passes gives r k j ≡ true → Does s
    passing-does n s j it e h =
        subst (λ l. GoesOnAt v x.seats l (asides k) sought s) (sym same)
        (passes-by gives r xs st i x v at told n s j it t (step-of s e) k h)

    does-passing : (n : ℕ) (s : Seat) (j : Job) → Is n s j → s.step ≡ step → Does s → passes gives r k j ≡ true
    does-passing n s j it e h =
        by-passes gives r xs st i x v at told n s j it t (step-of s e) k
        (subst (λ l. GoesOnAt v x.seats l (asides k) sought s) same h)

    pub own-first : (o : Option ℕ) → IsFirstAt x.seats Does step o → IsOwn gives r xs k i x step o
    own-first None none =
        λ n s j it e. false_from_ne_true (passes gives r k j)
        (λ h. none n s it.seat e (passing-does n s j it e h))
    own-first (Some n) f =
        let j = job-there gives r xs st i x v at told n f.seat f.there in
        record {
          seat = f.seat;
          job = j.0;
          is_job = j.1;
          of_step = f.of_step;
          does = does-passing n f.seat j.0 j.1 f.of_step f.does;
          first = λ m s l it e h. f.first m s it.seat e (passing-does m s l it e h);
        }

    pub own-begins : (o : Option ℕ) → IsFirstAt x.seats Does step o → IsOwnBegun gives r xs i x o
    own-begins None none = tt
    own-begins (Some n) f =
        λ number s j is.
        let same_seat = same_Some f.seat s (sym f.there ∙ is.is_job.seat) in
        let of_step = subst (λ (u : Seat). u.step ≡ step) same_seat f.of_step in
        may-begin gives r xs st i x v at told n s j is.is_job t (step-of s of_step) limit step number is of_step (asides k) sought
        (subst
        (λ (w : Seat).
        (m : ℕ) (u : Seat) → slice_get x.seats m ≡ Some u → u.step ≡ step → Does u → place_before u.place w.place ≡ false)
        same_seat f.first)
        (subst Does same_seat f.does)

  -- ---- at one job

  -- where its flow isn't open and it doesn't pass nothing is found
  pub nothing-at : (n : ℕ) (s : Seat) (j : Job) → Is n s j → is_nested s.stage ≡ false → passes gives r k j ≡ false → Found j None
  nothing-at n s j it e h = record {
    within = λ q. absurd (true≠false (sym q ∙ opens-by gives r xs st i x v at told n s j it ∙ e));
    itself = λ q. sym (ap (λ b. if b then Some j else None) h);
  }

  -- where it passes it is found
  itself-at : (n : ℕ) (s : Seat) (j : Job) → Is n s j → (t : Name × Step) → slice_get v.flow.steps s.step ≡ Some t
      → passes gives r k j ≡ true → Found j (Some j)
  itself-at n s j it t e h = record {
    within = λ q. absurd (passes-shut gives r xs st i x v at told n s j it t e k h q);
    itself = λ q. sym (ap (λ b. if b then Some j else None) h);
  }

  -- ---- inside the others

  module _ (own : Option ℕ) (is_own : IsOwn gives r xs k i x step own) where
    -- of those that stand before the one that passes itself, nothing is found at one whose flow isn't open
    quiet-before : (m : ℕ) (s : Seat) (l : Job) → Is m s l → s.step ≡ step → is_nested s.stage ≡ false
        → StandsBeforeOwn x s own → Found l None
    quiet-before m s l it e shut before = nothing-at m s l it shut (by own is_own before)
      where
        by : (o : Option ℕ) → IsOwn gives r xs k i x step o → StandsBeforeOwn x s o → passes gives r k l ≡ false
        by None none b = none m s l it e
        by (Some n) f b =
            false_from_ne_true (passes gives r k l)
            (λ h. true≠false (sym (b f.seat f.is_job.seat) ∙ f.first m s l it e h))

    at-place : (n : ℕ) (u : Seat) → slice_get x.seats n ≡ Some u → place_at x.seats n ≡ u.place
    at-place n u e = ap (λ o. option_map_or (λ (w : Seat). w.place) o []) e

    -- a seat that stands before it by its number
    own-by : (m : ℕ) (s : Seat) → slice_get x.seats m ≡ Some s → stands_before x.seats m own ≡ true
        → StandsBeforeOwn x s own
    own-by m s e h = by own h
      where
        by : (o : Option ℕ) → stands_before x.seats m o ≡ true → StandsBeforeOwn x s o
        by None q = tt
        by (Some n) q = λ u f. (λ l. place_before (sym (at-place m s e) l) (sym (at-place n u f) l)) ∙ q

    then-own : (s t : Seat) → place_before s.place t.place ≡ true → StandsBeforeOwn x t own
        → StandsBeforeOwn x s own
    then-own s t h b = by own b
      where
        by : (o : Option ℕ) → StandsBeforeOwn x t o → StandsBeforeOwn x s o
        by None q = tt
        by (Some n) q = λ u f. before-then s.place t.place u.place h (q u f)

    module _ (ns : List ℕ) (nested : AreNested x.seats step ns) where
      abbrev None_to : ℕ → Type 0
      None_to q = NoneAmong gives r xs k i x ns q

      -- one of the list by its number
      listed : (m : ℕ) (s : Seat) → slice_get x.seats m ≡ Some s → s.step ≡ step → is_nested s.stage ≡ true
          → (p : ℕ) × (slice_get ns p ≡ Some m)
      listed m s e f h = nested.all m s (record { there = e; of_step = f; nested = h })

      -- at the end of the list
      pub none-at_end : (q : ℕ) → length ns ≤ q → None_to q → IsFoundBefore gives r xs k i x step own None
      none-at_end q all none m s l it e before =
          on_test (is_nested s.stage)
          (λ h.
          let p = listed m s it.seat e h in
          none p.0 m s l (omega (arith, all, slice_get_within ns p.0 m p.1)) p.1 it)
          (λ h. quiet-before m s l it e h before)

      -- ---- at one of the list

      module _ (q n : ℕ) (here : slice_get ns q ≡ Some n) where
        abbrev pub nested-seat : (s : Seat) × IsNestedSeat x.seats step n s
        nested-seat = nested.nested q n here

        abbrev s : Seat
        s = nested-seat.0

        -- those of the list from it on don't stand before it
        not-before : (p m : ℕ) (t : Seat) → q ≤ p → slice_get ns p ≡ Some m → IsNestedSeat x.seats step m t
            → place_before t.place s.place ≡ false
        not-before p m t low e is =
            on_test (nat_lt q p)
            (λ h.
            before-turned s.place t.place
            (place-is s.place t.place
            ∙ nested.in_order q p n m s t here e nested-seat.1 is (ltb-true q p h)))
            (λ h.
            let high = ltb-false q p h in
            let one : p ≡ q = omega (arith, low, high) in
            let number = same_Some m n (sym e ∙ ap (slice_get ns) one ∙ here) in
            let seat = same_Some t s (sym is.there ∙ ap (slice_get x.seats) number ∙ nested-seat.1.there) in
            ap (λ (u : Seat). place_before u.place s.place) seat ∙ before-itself s.place)

        -- before it nothing is found
        none-before : None_to q → StandsBeforeOwn x s own → (m : ℕ) (t : Seat) (l : Job) → Is m t l → t.step ≡ step
            → place_before t.place s.place ≡ true → Found l None
        none-before none own_before m t l it e b =
            on_test (is_nested t.stage)
            (λ h.
            let p = listed m t it.seat e h in
            on_test (nat_lt p.0 q) (λ g. none p.0 m t l (ltb-true p.0 q g) p.1 it)
            (λ g.
            absurd
            (true≠false
            (sym b
            ∙ not-before p.0 m t (ltb-false p.0 q g) p.1 (record { there = it.seat; of_step = e; nested = h })))))
            (λ h. quiet-before m t l it e h (then-own t s b own_before))

        -- where it stands behind the one that passes itself
        pub none-behind : stands_before x.seats n own ≡ false → None_to q → IsFoundBefore gives r xs k i x step own None
        none-behind h none m t l it e before = by own is_own h before
          where
            behind : (u : Seat) → place_before s.place u.place ≡ false → place_before t.place u.place ≡ true → Found l None
            behind u g b =
                on_test (is_nested t.stage)
                (λ c.
                let p = listed m t it.seat e c in
                on_test (nat_lt p.0 q) (λ w. none p.0 m t l (ltb-true p.0 q w) p.1 it)
                (λ w.
                absurd
                (true≠false
                (sym b
                ∙ before-chain t.place s.place u.place
                (not-before p.0 m t (ltb-false p.0 q w) p.1 (record { there = it.seat; of_step = e; nested = c })) g))))
                (λ c. quiet-before m t l it e c before)

            by : (o : Option ℕ) → IsOwn gives r xs k i x step o → stands_before x.seats n o ≡ false
                → StandsBeforeOwn x t o → Found l None
            by None w g b = absurd (true≠false g)
            by (Some a) w g b =
                behind w.seat
                ((λ c.
                place_before (sym (at-place n s nested-seat.1.there) c) (sym (at-place a w.seat w.is_job.seat) c)) ∙ g)
                (b w.seat w.is_job.seat)

        -- ---- its instance

        module _ (c : ℕ) (stage_is : stage_at x.seats n ≡ Some (stage.Nested c)) where
          nested-in : s.stage ≡ stage.Nested c
          nested-in =
              same_Some s.stage (stage.Nested c)
              (sym (ap (option_map (λ (u : Seat). u.stage)) nested-seat.1.there) ∙ stage_is)

          its-job : (j : Job) × Is n s j
          its-job = job-there gives r xs st i x v at told n s nested-seat.1.there

          open-inside : (j : Job) → Is n s j → IsOpenAt xs c j.name
          open-inside j it = st.stand.nested i n c x s j it nested-in

          pub inner-is : IsInner xs c x
          inner-is = by (open-inside its-job.0 its-job.1).instance.view refl
            where
              o : IsOpenAt xs c its-job.0.name
              o = open-inside its-job.0 its-job.1

              by : (w : Option View) → o.instance.view ≡ w → IsInner xs c x
              by None e = absurd (true≠false (sym o.is_open ∙ ap is_some e))
              by (Some w) e = record {
                inner = o.instance;
                view = w;
                there = o.there;
                is_open = e;
                deep =
                    ap (λ (l : JobName). length l) (o.is_its ∙ its-job.1.job.name)
                    ∙ length-append x.name (spot_of x.flow.steps s ∷ []);
              }

          module _ (y : Instance) (inner_at : IsAt xs c y) where
            named-inner : (j : Job) → Is n s j → y.name ≡ j.name
            named-inner j it =
                let o = open-inside j it in
                ap (λ (z : Instance). z.name) (same_Some y o.instance (sym inner_at ∙ o.there)) ∙ o.is_its

            found-inside : (j : Job) → Is n s j → (o : Option Job)
                → IsFirstWithin gives (run_view r.run) (passes gives r k) y.name o → Found j o
            found-inside j it o w = record {
              within = λ h. subst (λ l. IsFirstWithin gives (run_view r.run) (passes gives r k) l o) (named-inner j it) w;
              itself = λ h.
                  absurd
                  (true≠false (sym (opens-by gives r xs st i x v at told n s j it ∙ nested-seat.1.nested) ∙ h));
            }

            -- where nothing is found inside it either
            pub none-more : None_to q → IsFoundInside gives r xs k y None → None_to (q + 1)
            none-more none w p m t l low e it =
                on_test (nat_lt p q) (λ h. none p m t l (ltb-true p q h) e it)
                (λ h.
                let high = ltb-false p q h in
                let one : p ≡ q = omega (arith, low, high) in
                let number = same_Some m n (sym e ∙ ap (slice_get ns) one ∙ here) in
                let seat = same_Some t s (sym it.seat ∙ ap (slice_get x.seats) number ∙ nested-seat.1.there) in
                found-inside l (subst (λ a. Is a s l) number (subst (λ u. Is m u l) seat it)) None w)

            -- where something is
            pub some-inside : stands_before x.seats n own ≡ true → None_to q → (number : ℕ)
                → IsFoundInside gives r xs k y (Some number) → IsFoundAtStep gives r xs k i x step number
            some-inside before none number w = record {
              number = n;
              seat = s;
              job = its-job.0;
              is_job = its-job.1;
              of_step = nested-seat.1.of_step;
              found = w.0;
              is_found = found-inside its-job.0 its-job.1 (Some w.0) w.1;
              may = w.2;
              first = none-before none (own-by n s nested-seat.1.there before);
            }

  -- ---- all of the step

  -- the one that passes itself, where nothing is found before it
  own-found : (n number : ℕ) → IsOwn gives r xs k i x step (Some n) → IsOwnBegun gives r xs i x (Some n)
      → IsFoundBefore gives r xs k i x step (Some n) None → slice_get (numbers_of r) number ≡ Some (i, n)
      → IsFoundAtStep gives r xs k i x step number
  own-found n number own begins none numbered =
      let t = step-there gives r xs st i x v at told n own.seat own.is_job.seat in
      record {
        number = n;
        seat = own.seat;
        job = own.job;
        is_job = own.is_job;
        of_step = own.of_step;
        found = own.job;
        is_found = itself-at n own.seat own.job own.is_job t.0 t.1 own.does;
        may = begins number own.seat own.job (record { numbered = numbered; is_job = own.is_job });
        first = λ m s l it e b.
            none m s l it e
            (λ u f.
            subst (λ (w : Seat). place_before s.place w.place ≡ true) (same_Some own.seat u (sym own.is_job.seat ∙ f)) b);
      }

  pub own-low : (o : Option ℕ) → IsOwn gives r xs k i x step o → IfSome o (λ n. n < length x.seats)
  own-low None own = tt
  own-low (Some n) own = slice_get_within x.seats n own.seat own.is_job.seat

  -- where nothing is found before the one that passes itself
  pub own-or_none : (own o : Option ℕ) → IsOwn gives r xs k i x step own → IsOwnBegun gives r xs i x own
      → IsFoundBefore gives r xs k i x step own None → AreInRun r i own o → IsFoundOf gives r xs k i x step o
  own-or_none None o is begun none numbered =
      subst (IsFoundOf gives r xs k i x step) (sym numbered) (λ m s l it e. none m s l it e tt)
  own-or_none (Some n) None is begun none numbered = absurd numbered
  own-or_none (Some n) (Some number) is begun none numbered = own-found n number is begun none numbered
