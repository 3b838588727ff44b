-- A run of which one instance is another with the same jobs: it fits that, with the same names.
use Rattle.std.specs.List.{sum_by}
use Rattle.std.specs.Option.{option_map_or}
use Rattle.std.specs.Prelude.{◌≡◌, refl, ℕ, zero, suc, ◌+◌, ◌<◌, ◌≤◌, ◌++◌, true, List, [], ◌∷◌, None, Option, Some, is_some, length, map, option_map, slice_get, slice_set}
use Rattle.std.proofs.Common.{ap, arith, subst, sym, ◌∙◌}
use Rattle.std.proofs.lemmas.List.{length-map, length-set}
use Rattle.std.proofs.lemmas.List.Sums.{sum_by-cons}
use Rattle.std.proofs.lemmas.Option.{none-some, same_Some, slice_get_cases, slice_get_past, slice_get_within, slice_get-map}
use Rattle.tv_lemmas.specs.Members.{In}
use Rattle.tv_lemmas.proofs.Cases.{on_either}
use Rattle.tv_lemmas.proofs.Lists.{get-within, of-image, get-map}
use Rattle.tv_value.specs.Nested.{Place}
use Rattle.tv_value.specs.Values.{JobName, Name}
use Rattle.tv_flow.specs.Flows.{Flow, Step}
use Rattle.tv_check.specs.RunViews.{run_view}
use Rattle.tv_instances.specs.FramingViews.{View}
use Rattle.tv_frame_laws.specs.Theirs.{AreTheirs}
use Rattle.tv_seats.specs.Seats.{Seat}
use Rattle.tv_instances.specs.seats.Seated.{AreAtSteps, spot_of}
use Rattle.tv_instances.specs.Entries.{with_instance}
use Rattle.tv_instances.specs.Forest.{AreNumbered, Instance, Instances, IsAt, names_by}
use Rattle.tv_instances.proofs.Lists.{at-set, of-set, one-at, same-number, to-set}
use Rattle.tv_instances.specs.forest_firsts.Told.{KeepsSpots}
use Rattle.tv_instances.proofs.forest_firsts.Names.{names-stay}
use Rattle.tv_instances.specs.Standing.{IsOpen, job_of}
use Rattle.tv_run.specs.Following.{OthersAreSame}
use Rattle.tv_run.specs.Looks.{AreLooks}
use Rattle.tv_run.specs.Standing.{Fits, IsKept, IsLife, due_in, frame_at, name_behind, names_from, names_of, numbered_as, numbers_of, opener_name, seats_of, steps_of}
use Rattle.tv_run.specs.declared.instances.Instance as code
use Rattle.tv_run.specs.declared.instances.Numbered.{Numbered}
use Rattle.tv_run.specs.declared.run.OpenRun.{OpenRun}

-- e has the flow, opener, numbers and jobs of c
pub record HasSameJobs (c e : code.Instance) : Type 0 where
  pub flow : e.flow ≡ c.flow
  pub opener : e.opener ≡ c.opener
  pub numbers : e.jobs.items ≡ c.jobs.items
  pub is_busy : e.is_busy ≡ c.is_busy
  pub jobs : map job_of (seats_of e) ≡ map job_of (seats_of c)

same-jobs : (c e : code.Instance) → e ≡ c → HasSameJobs c e
same-jobs c e h = record {
  flow = ap (λ (x : code.Instance). x.flow) h;
  opener = ap (λ (x : code.Instance). x.opener) h;
  numbers = ap (λ (x : code.Instance). x.jobs.items) h;
  is_busy = ap (λ (x : code.Instance). x.is_busy) h;
  jobs = ap (λ x. map job_of (seats_of x)) h;
}

-- s is r with another instance of that number, which has the same jobs
pub record IsMoved (r s : OpenRun) (i : ℕ) : Type 0 where
  pub run : s.run ≡ r.run
  pub looks : s.looks ≡ r.looks
  pub pool : s.pool ≡ r.pool
  pub jobs : s.jobs.items ≡ r.jobs.items
  pub busy : s.busy.items ≡ r.busy.items
  pub others : OthersAreSame r s i
  pub itself :
      (c e : code.Instance) → slice_get r.instances.items i ≡ Some c → slice_get s.instances.items i ≡ Some e
      → HasSameJobs c e

-- of the instances x is y then
pub record IsMovedTo (r s : OpenRun) (i : ℕ) (x y : Instance) : Type 0 where
  pub name : y.name ≡ x.name
  pub flow : y.flow ≡ x.flow
  pub jobs : map job_of y.seats ≡ map job_of x.seats
  pub seats : (e : code.Instance) → slice_get s.instances.items i ≡ Some e → seats_of e ≡ y.seats
  pub life : (e : code.Instance) → slice_get s.instances.items i ≡ Some e → IsLife s e y y.view
  pub theirs : AreTheirs s.pool (frame_at s)
  pub due : s.due + due_in x ≡ r.due + due_in y
  pub was_open : is_some x.view ≡ true

-- ---- seats of the same jobs

pub same-job : (ss ts : List Seat) → map job_of ts ≡ map job_of ss → (n : ℕ) (s : Seat) → slice_get ss n ≡ Some s
    → (t : Seat) × (slice_get ts n ≡ Some t) × (t.step ≡ s.step) × (t.place ≡ s.place)
same-job ss ts h n s at =
    let w = of-image job_of ts n (job_of s) (ap (λ l. slice_get l n) h ∙ get-map job_of ss n s at) in
    (w.0, w.1, ap (λ (p : ℕ × Place). p.0) w.2, ap (λ (p : ℕ × Place). p.1) w.2)

pub at-steps : (steps : List (Name × Step)) (ss ts : List Seat) → map job_of ts ≡ map job_of ss → AreAtSteps steps ss
    → AreAtSteps steps ts
at-steps steps ss ts h at n t there =
    let s = same-job ts ss (sym h) n t there in
    let w = at n s.0 s.1 in
    (w.0, ap (slice_get steps) (sym s.2) ∙ w.1)

-- the spot of a seat, by its job
abbrev pub spot_by : List (Name × Step) → ℕ × Place → Name × Place
spot_by steps j = (option_map_or (λ t. t.0) (slice_get steps j.0) [], j.1)

pub at-spot : (steps : List (Name × Step)) (ss : List Seat) (n : ℕ)
    → option_map_or (λ t. spot_of steps t ∷ []) (slice_get ss n) []
    ≡ option_map_or (λ j. spot_by steps j ∷ []) (slice_get (map job_of ss) n) []
at-spot steps ss n =
    by (slice_get ss n) ∙ sym (ap (λ o. option_map_or (λ j. spot_by steps j ∷ []) o []) (slice_get-map job_of ss n))
  where
    by : (o : Option Seat)
        → option_map_or (λ t. spot_of steps t ∷ []) o [] ≡ option_map_or (λ j. spot_by steps j ∷ []) (option_map job_of o) []
    by None = refl
    by (Some s) = refl

-- ---- sums

pub sum-set : {A : Type 0} (f : A → ℕ) (xs : List A) (i : ℕ) (x y : A) → slice_get xs i ≡ Some x
    → sum_by f (slice_set xs i y) + f x ≡ sum_by f xs + f y
sum-set f [] i x y at = absurd (none-some x at)
sum-set f (z ∷ xs) zero x y at =
    let old = sum_by-cons f z xs in
    let new = sum_by-cons f y xs in
    let same = ap f (same_Some z x at) in
    omega (arith, old, new, same)
sum-set f (z ∷ xs) (suc i) x y at =
    let old = sum_by-cons f z xs in
    let new = sum_by-cons f z (slice_set xs i y) in
    let rest = sum-set f xs i x y at in
    omega (arith, old, new, rest)

module _ (r s : OpenRun) (i : ℕ) (m : IsMoved r s i) where
  each : (k : ℕ) (c e : code.Instance) → slice_get r.instances.items k ≡ Some c → slice_get s.instances.items k ≡ Some e
      → HasSameJobs c e
  each k c e was is =
      same-number k i
      (λ h.
      m.itself c e (subst (λ n. slice_get r.instances.items n ≡ Some c) h was)
      (subst (λ n. slice_get s.instances.items n ≡ Some e) h is))
      (λ ne. same-jobs c e (same_Some e c (sym is ∙ m.others.others k ne ∙ was)))

  there-before : (k : ℕ) (e : code.Instance) → slice_get s.instances.items k ≡ Some e
      → (c : code.Instance) × (slice_get r.instances.items k ≡ Some c) × HasSameJobs c e
  there-before k e at =
      let c = get-within r.instances.items k
      (subst (λ n. k < n) m.others.as_many (slice_get_within s.instances.items k e at)) in
      (c.0, c.1, each k c.0 e c.1 at)

  pub numbers-moved : numbers_of s ≡ numbers_of r
  numbers-moved = ap (map numbered_as) m.jobs

  -- ---- names

  abbrev name_in : OpenRun → List JobName → ℕ → code.Instance → JobName
  name_in q so_far n c =
      opener_name so_far c.opener
      ++ option_map_or (λ t. spot_of (steps_of (run_view q.run) c) t ∷ []) (slice_get (seats_of c) n) []

  steps-same : (c e : code.Instance) → HasSameJobs c e → steps_of (run_view s.run) e ≡ steps_of (run_view r.run) c
  steps-same c e h =
      λ j. option_map_or (λ (f : Name × Flow). f.1.steps) (slice_get (run_view (m.run j)).flows (h.flow j)) []

  named-same : (so_far : List JobName) (n : ℕ) (c e : code.Instance) → HasSameJobs c e
      → name_in s so_far n e ≡ name_in r so_far n c
  named-same so_far n c e h =
      ap (λ l. opener_name so_far e.opener ++ l) (at-spot (steps_of (run_view s.run) e) (seats_of e) n)
      ∙ (λ j.
      opener_name so_far (h.opener j)
      ++ option_map_or (λ q. spot_by (steps-same c e h j) q ∷ []) (slice_get (h.jobs j) n) [])
      ∙ ap (λ l. opener_name so_far c.opener ++ l) (sym (at-spot (steps_of (run_view r.run) c) (seats_of c) n))

  behind-same : (so_far : List JobName) (k : Numbered) → name_behind s so_far k ≡ name_behind r so_far k
  behind-same so_far k =
      on_either (slice_get_cases s.instances.items k.instance).1
      (λ w.
      let c = there-before k.instance w.0 w.2 in
      ap (λ o. option_map_or (name_in s so_far k.number) o []) w.2
      ∙ named-same so_far k.number c.0 w.0 c.2
      ∙ sym (ap (λ o. option_map_or (name_in r so_far k.number) o []) c.1))
      (λ w.
      ap (λ o. option_map_or (name_in s so_far k.number) o []) w.1
      ∙ sym
      (ap (λ o. option_map_or (name_in r so_far k.number) o [])
      (slice_get_past r.instances.items k.instance (subst (λ n. n ≤ k.instance) m.others.as_many w.0))))

  from-same : (so_far : List JobName) (ks : List Numbered) → names_from s so_far ks ≡ names_from r so_far ks
  from-same so_far [] = refl
  from-same so_far (k ∷ ks) =
      ap (λ n. names_from s (so_far ++ n ∷ []) ks) (behind-same so_far k)
      ∙ from-same (so_far ++ name_behind r so_far k ∷ []) ks

  pub names-moved : names_of s ≡ names_of r
  names-moved = ap (names_from s []) m.jobs ∙ from-same [] r.jobs.items

  -- ---- what it fits

  module _ (xs : Instances) (x y : Instance) (fits : Fits r xs) (at : IsAt xs i x) (to : IsMovedTo r s i x y) where
    abbrev ys : Instances
    ys = with_instance xs i y

    keeps : KeepsSpots xs ys
    keeps k z there =
        same-number k i
        (λ is.
        let old : z ≡ x = one-at xs i z x (subst (λ n. slice_get xs n ≡ Some z) is there) at in (
          y,
          subst (λ n. IsAt ys n y) (sym is) (at-set xs i x y at),
          to.name ∙ sym (ap (λ (u : Instance). u.name) old),
          to.flow ∙ sym (ap (λ (u : Instance). u.flow) old),
          λ n s e. same-job x.seats y.seats to.jobs n s (subst (λ (u : Instance). slice_get u.seats n ≡ Some s) old e),
        ))
        (λ ne. (z, to-set xs i x y at k z ne there, refl, refl, λ n s e. (s, e, refl, refl)))

    -- and none is there that wasn't
    back : (k : ℕ) (z : Instance) → IsAt ys k z
        → (u : Instance) × IsAt xs k u × (map job_of z.seats ≡ map job_of u.seats)
    back k z there =
        same-number k i
        (λ is.
        let new : z ≡ y =
        one-at ys i z y (subst (λ n. slice_get ys n ≡ Some z) is there) (at-set xs i x y at) in
        (x, subst (λ n. IsAt xs n x) (sym is) at, ap (λ (u : Instance). map job_of u.seats) new ∙ to.jobs))
        (λ ne. (z, of-set xs i x y at k z ne there, refl))

    numbered : AreNumbered ys (numbers_of r)
    numbered = record {
      seats = λ a k n e.
          let w = fits.numbered.seats a k n e in
          let u = keeps k w.0 w.2 in
          let t = u.4 n w.1 w.3 in
          (u.0, t.0, u.1, t.1);
      all = λ k n z t there sits.
          let u = back k z there in
          let s = same-job z.seats u.0.seats (sym u.2) n t sits in
          fits.numbered.all k n u.0 s.0 u.1 s.1;
      apart = fits.numbered.apart;
    }

    life-same : (c : code.Instance) (z : Instance) (o : Option View) → IsLife r c z o → IsLife s c z o
    life-same c z None life = life
    life-same c z (Some v) life = record {
      itself = life.itself;
      there = life.there;
      flow = life.flow;
      is_open = λ plan e.
          subst (λ q. IsOpen (run_view q) plan s.pool life.itself v) (sym m.run)
          (subst (λ p. IsOpen (run_view r.run) plan p life.itself v) (sym m.pool) (life.is_open plan e));
      still = life.still;
    }

    -- instance k was kept, and has this flow and these jobs
    kept-by : (k : ℕ) (c e : code.Instance) (u z : Instance) → IsKept r k c u → HasSameJobs c e → z.name ≡ u.name
        → z.flow ≡ u.flow → map job_of z.seats ≡ map job_of u.seats → seats_of e ≡ z.seats → IsLife s e z z.view
        → (is_some z.view ≡ true → is_some u.view ≡ true) → IsKept s k e z
    kept-by k c e u z kept same name flow jobs seats life was_open = record {
      flow =
          (λ j. option_map (λ (f : Name × Flow). f.1) (slice_get (run_view (m.run j)).flows (same.flow j)))
          ∙ kept.flow ∙ ap Some (sym flow);
      seats = seats;
      steps =
          subst (λ (f : Flow). AreAtSteps f.steps z.seats) (sym flow) (at-steps u.flow.steps u.seats z.seats jobs kept.steps);
      main = λ h. let w = kept.main (sym same.opener ∙ h) in (w.0, name ∙ w.1);
      opener = λ n h. ap (λ l. slice_get l n) names-moved ∙ kept.opener n (sym same.opener ∙ h) ∙ ap Some (sym name);
      numbered = λ n a h.
          ap (λ l. slice_get l a) numbers-moved ∙ kept.numbered n a (ap (λ l. slice_get l n) (sym same.numbers) ∙ h);
      as_many = λ now.
          ap length same.numbers ∙ kept.as_many (was_open now) ∙ sym (length-map u.seats job_of) ∙ sym (ap length jobs)
          ∙ length-map z.seats job_of;
      life = life;
    }

    kept : (k : ℕ) (e : code.Instance) (z : Instance) → slice_get s.instances.items k ≡ Some e → IsAt ys k z
        → IsKept s k e z
    kept k e z is there =
        let c = there-before k e is in
        same-number k i
        (λ h.
        let here : slice_get s.instances.items i ≡ Some e = subst (λ n. slice_get s.instances.items n ≡ Some e) h is in
        let new : z ≡ y = one-at ys i z y (subst (λ n. slice_get ys n ≡ Some z) h there) (at-set xs i x y at) in
        subst (IsKept s k e) (sym new)
        (kept-by k c.0 e x y (fits.kept k c.0 x c.1 (subst (λ n. IsAt xs n x) (sym h) at)) c.2 to.name to.flow to.jobs
        (to.seats e here) (to.life e here) (λ now. to.was_open)))
        (λ ne.
        let old = fits.kept k c.0 z c.1 (of-set xs i x y at k z ne there) in
        let same : e ≡ c.0 = same_Some e c.0 (sym is ∙ m.others.others k ne ∙ c.1) in
        kept-by k c.0 e z z old c.2 refl refl refl (ap seats_of same ∙ old.seats)
        (subst (λ g. IsLife s g z z.view) (sym same) (life-same c.0 z z.view old.life)) (λ now. now))

    pub fits-moved : Fits s (with_instance xs i y)
    fits-moved = record {
      as_many = m.others.as_many ∙ fits.as_many ∙ sym (length-set xs i y);
      kept = kept;
      looks =
          subst (λ q. AreLooks (run_view q) s.looks.items) (sym m.run)
          (subst (λ l. AreLooks (run_view r.run) l) (sym (ap (λ l. l.items) m.looks)) fits.looks);
      numbered = subst (AreNumbered ys) (sym numbers-moved) numbered;
      names_are =
          names-moved ∙ fits.names_are ∙ sym (names-stay xs ys (numbers_of r) fits.numbered keeps)
          ∙ ap (names_by ys) (sym numbers-moved);
      behind = λ k n e a is there opener.
          let c = there-before n.instance e there in
          fits.behind k n c.0 a (ap (λ l. slice_get l k) (sym m.jobs) ∙ is) c.1 (sym c.2.opener ∙ opener);
      theirs = to.theirs;
      busy = λ k e is busy.
          let c = there-before k e is in
          subst (In k) (sym m.busy) (fits.busy k c.0 c.1 (sym c.2.is_busy ∙ busy));
      busy_low = λ k h. subst (λ n. k < n) (sym m.others.as_many) (fits.busy_low k (subst (In k) m.busy h));
      due_is =
          let sum = sum-set due_in xs i x y at in
          let due = to.due in
          let was = fits.due_is in
          omega (arith, sum, due, was);
    }
