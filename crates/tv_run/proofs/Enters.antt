-- A run with one more instance, which is open and told nothing: it fits its instances with that one behind them.
use Rattle.std.specs.List.{range_with_len, sum_by}
use Rattle.std.specs.Prelude.{◌≡◌, refl, ℕ, ◌+◌, ◌<◌, ◌⊎◌, ◌++◌, true, List, [], ◌∷◌, None, Option, Some, length, map, option_and_then, option_map, slice_get}
use Rattle.std.proofs.Common.{ap, arith, inl, inr, length-append, subst, sym, ◌∙◌}
use Rattle.std.proofs.lemmas.List.FromFn.{length-range_with_len}
use Rattle.std.proofs.lemmas.List.Sums.{sum_by_push}
use Rattle.std.proofs.lemmas.Option.{none-some, slice_get_cases, slice_get_past, slice_get_within}
use Rattle.tv_lemmas.specs.Members.{In}
use Rattle.tv_lemmas.proofs.Cases.{on_either}
use Rattle.tv_lemmas.proofs.Lists.{get-within, in-front, get-end}
use Rattle.tv_lemmas.proofs.Members.{get-in, in-slice}
use Rattle.tv_value.specs.Values.{JobName, Value}
use Rattle.tv_flow.specs.Flows.{Flow}
use Rattle.tv_flow.specs.Views.{flow_view}
use Rattle.tv_check.specs.RunViews.{run_view}
use Rattle.tv_check.specs.declared.plans.FlowPlan.{FlowPlan}
use Rattle.tv_pool.specs.Pool.{number_of, region_at}
use Rattle.tv_stream.specs.nodes.Calls.{KeepsRegions}
use Rattle.tv_model.proofs.Tests.{true≠false}
use Rattle.tv_instances.specs.FramingStated.{IsOfDepths}
use Rattle.tv_instances.specs.FramingViews.{View}
use Rattle.tv_frame.specs.Kept.{named_job}
use Rattle.tv_frame.specs.Tables.{levels_in}
use Rattle.tv_frame.specs.declared.frame.Frame.{Frame}
use Rattle.tv_frame_laws.specs.Theirs.{AreTheirs, OthersStay}
use Rattle.tv_frame_laws.proofs.Frames.{starts-keep}
use Rattle.tv_frame_laws.proofs.Theirs.{theirs-started}
use Rattle.tv_seats.specs.Seats.{Seat}
use Rattle.tv_instances.specs.seats.GoingOn.{IsNew}
use Rattle.tv_instances.specs.seats.Seated.{AreAtSteps, spot_of}
use Rattle.tv_instances.specs.Forest.{Instance, Instances, IsAt, TellsNumbers, names_by}
use Rattle.tv_instances.proofs.Lists.{of-last}
use Rattle.tv_instances.specs.Standing.{IsOpen, StartsOpen, job_of}
use Rattle.tv_instances.specs.declared.open.Open.{Open}
use Rattle.tv_run.specs.Changes.{AddsTo, CanAdd, IsNameOf, IsOpenedOn}
use Rattle.tv_run.specs.Following.{Enters}
use Rattle.tv_run.specs.Looks.{IsFlow}
use Rattle.tv_run.specs.Rooms.{IsSameButRooms, IsSameInstance}
use Rattle.tv_run.specs.Standing.{Fits, IsLife, due_in, frame_at, numbers_of}
use Rattle.tv_run.specs.declared.instances.Instance as code
use Rattle.tv_run.specs.declared.run.OpenRun.{OpenRun}
use Rattle.tv_run.proofs.Fits.{all-due}
use Rattle.tv_run.proofs.Grown.{AreMore, HasGrown, IsGrown, fits-grown, more_jobs, more_numbers, names-grown, tells-more, tells-still}
use Rattle.tv_run.proofs.Opens.{frame-is, life-beside, open-any}
use Rattle.tv_run.proofs.Rooms.{life-rooms, seats_by}

-- m is r but for rooms and the pool, where o was started in a region of its own
pub record IsStarted (r m : OpenRun) (o : Open) : Type 0 where
  pub run : m.run ≡ r.run
  pub looks : m.looks ≡ r.looks
  pub instances : m.instances.items ≡ r.instances.items
  pub busy : m.busy.items ≡ r.busy.items
  pub jobs : m.jobs.items ≡ r.jobs.items
  pub entries : m.entries.items ≡ r.entries.items
  pub due : m.due ≡ r.due
  pub failed : m.failed ≡ r.failed
  pub outs : m.outs ≡ r.outs
  pub own : number_of o.frame.region ≡ length r.pool.regions
  pub keeps : KeepsRegions r.pool m.pool (number_of o.frame.region)

-- the jobs of seats, by the names of their steps
spots-are : (f : Flow) (ss : List Seat) → map (spot_of f.steps) ss ≡ map (named_job f) (map job_of ss)
spots-are f [] = refl
spots-are f (s ∷ ss) = ap (λ l. spot_of f.steps s ∷ l) (spots-are f ss)

module _ (r m t s : OpenRun) (xs : Instances) (flow : ℕ) (f : Flow) (opener : Option ℕ) (name : JobName)
    (values : List Value) (o : Open) (can : CanAdd r xs flow f opener name values) (started : IsStarted r m o)
    (rooms : IsSameButRooms m t) (enters : Enters t s flow opener o) (plan : FlowPlan) (of_flow : flow_view plan.flow ≡ f)
    (starts : StartsOpen (run_view r.run) plan values m.pool o) where
  fits : Fits r xs
  fits = can.fits

  abbrev w : View
  w = starts.view

  abbrev n : ℕ
  n = length o.seats.seats

  abbrev pub entered : Instance
  entered = record { name = name; flow = f; seats = o.seats.seats; view = Some w }

  abbrev ys : Instances
  ys = xs ++ entered ∷ []

  flow-is : w.flow ≡ f
  flow-is = starts.is_open.keeps.flow_is ∙ of_flow

  -- ---- what it is

  new-instance : IsNew (run_view r.run) (levels_in f) w o.seats.seats
  new-instance = record {
    untold = starts.untold;
    frame = starts.is_open.keeps.frame;
    depths =
        subst (λ g. IsOfDepths (run_view r.run).flows (levels_in g) w) flow-is starts.is_open.keeps.of_depths;
    jobs =
        spots-are w.flow o.seats.seats
        ∙ ap (map (named_job w.flow)) starts.is_open.known
        ∙ sym starts.is_open.keeps.jobs_are;
    new = starts.new;
  }

  pub opened-on : IsOpenedOn (run_view r.run) f values name entered
  opened-on = record {
    view = w;
    is_open = refl;
    called = refl;
    flow = refl;
    of_flow = flow-is;
    inputs = starts.inputs;
    names =
        starts.is_open.keeps.inputs_are.names
        ∙ ap (λ (g : Flow). map (λ x. x.0) g.inputs) flow-is;
    new = new-instance;
  }

  -- ---- the instances

  many-t : length t.instances.items ≡ length xs
  many-t = rooms.as_many ∙ ap length started.instances ∙ fits.as_many

  many-s : length s.instances.items ≡ length ys
  many-s =
      ap length enters.instances
      ∙ length-append t.instances.items (enters.itself ∷ [])
      ∙ ap (λ k. k + 1) many-t
      ∙ sym (length-append xs (entered ∷ []))

  -- one that was there
  pub record IsOld (k : ℕ) (e : code.Instance) : Type 0 where
    pub low : k < length xs
    pub there : slice_get t.instances.items k ≡ Some e
    pub before : code.Instance
    pub was : slice_get r.instances.items k ≡ Some before
    pub in_m : slice_get m.instances.items k ≡ Some before

  old-at : (k : ℕ) (e : code.Instance) → slice_get t.instances.items k ≡ Some e → IsOld k e
  old-at k e at =
      let low : k < length xs = subst (λ q. k < q) many-t (slice_get_within t.instances.items k e at) in
      let c = get-within r.instances.items k (subst (λ q. k < q) (sym fits.as_many) low) in
      record {
        low = low;
        there = at;
        before = c.0;
        was = c.1;
        in_m = ap (λ l. slice_get l k) started.instances ∙ c.1;
      }

  -- which it is
  which : (k : ℕ) (e : code.Instance) → slice_get s.instances.items k ≡ Some e
      → IsOld k e ⊎ ((k ≡ length xs) × (enters.itself ≡ e))
  which k e at =
      on_either (of-last t.instances.items enters.itself k e (sym (ap (λ l. slice_get l k) enters.instances) ∙ at))
      (λ h. inl (old-at k e h))
      (λ h. inr (h.0 ∙ many-t, h.1))

  beyond : (k : ℕ) (z : Instance) → k ≡ length xs → IsAt xs k z → ⊥
  beyond k z is at =
      let low = slice_get_within xs k z at in
      omega (arith, low, is)

  run-is : s.run ≡ r.run
  run-is = enters.around.run ∙ rooms.run ∙ started.run

  -- ---- one that was there

  jobs-are : s.jobs.items ≡ r.jobs.items ++ more_jobs (length xs) 0 n
  jobs-are =
      enters.jobs
      ∙ ap (λ l. l ++ more_jobs (length t.instances.items) 0 n) (rooms.jobs ∙ started.jobs)
      ∙ ap (λ k. r.jobs.items ++ more_jobs k 0 n) many-t

  its-region : (q : Open) (k : ℕ) (c : code.Instance) → slice_get r.instances.items k ≡ Some c → c.open.items ≡ q ∷ []
      → region_at m.pool (number_of q.frame.region) ≡ region_at r.pool (number_of q.frame.region)
  its-region q k c was e =
      starts-keep r.pool m.pool q.frame (fits.theirs.live k q.frame (frame-is r k c q [] was e))
      (subst (KeepsRegions r.pool m.pool) started.own started.keeps)

  life-old : (k : ℕ) (e : code.Instance) (z : Instance) (h : IsOld k e) → IsLife r h.before z z.view → IsLife s e z z.view
  life-old k e z h life =
      life-beside t s e z z.view enters.around.run (λ q a. ap (λ p. region_at p (number_of q.frame.region)) enters.around.pool)
      (life-rooms m t rooms h.before e z z.view (rooms.instances k h.before e h.in_m h.there)
      (life-beside r m h.before z z.view started.run (λ q a. its-region q k h.before h.was a) life))

  grown-old : (k : ℕ) (e : code.Instance) (z : Instance) → IsOld k e → IsAt xs k z → IsGrown r s k e z
  grown-old k e z h at =
      let kept = fits.kept k h.before z h.was at in
      let same = rooms.instances k h.before e h.in_m h.there in
      record {
        flow = subst (λ q. IsFlow (run_view r.run) q z.flow) (sym same.flow) kept.flow;
        seats = (λ j. seats_by (same.seats j) (same.opened j).items) ∙ kept.seats;
        steps = kept.steps;
        main = λ none. kept.main (sym same.opener ∙ none);
        opener = λ q some. kept.opener q (sym same.opener ∙ some);
        numbered =
            tells-still r s (length xs) 0 n k e.jobs.items jobs-are
            (subst (TellsNumbers (numbers_of r) k) (sym same.jobs) kept.numbered);
        as_many = λ now. ap length same.jobs ∙ kept.as_many now;
        life = life-old k e z h kept.life;
      }

  -- ---- the new one

  life-new : IsLife s enters.itself entered (Some w)
  life-new = record {
    itself = o;
    there = enters.opened;
    flow = flow-is;
    is_open = λ other h.
        subst (λ d. IsOpen (run_view d) other s.pool o w) (sym run-is)
        (subst (λ q. IsOpen (run_view r.run) other q o w) (sym (enters.around.pool ∙ rooms.pool))
        (open-any (run_view r.run) plan other m.pool o w (h ∙ sym flow-is) starts.is_open));
    still = λ idle. absurd (true≠false (sym enters.is_busy ∙ idle));
  }

  grown-new : IsGrown r s (length xs) enters.itself entered
  grown-new = record {
    flow = subst (λ q. IsFlow (run_view r.run) q f) (sym enters.flow_is) can.is_flow;
    seats = ap (seats_by enters.itself.seats) enters.opened;
    steps = subst (λ (g : Flow). AreAtSteps g.steps o.seats.seats) flow-is starts.new.there;
    main = λ none.
        let e = sym enters.opener_is ∙ none in
        (ap length (can.main e), subst (λ q. IsNameOf r q name) e can.named);
    opener = λ q some. subst (λ a. IsNameOf r a name) (sym enters.opener_is ∙ some) can.named;
    numbered =
        tells-more r s (length xs) 0 n [] enters.itself.jobs.items jobs-are refl
        (enters.numbers ∙ ap (λ l. range_with_len (length l) n) (rooms.jobs ∙ started.jobs))
        (λ q b e. absurd (none-some b e));
    as_many = λ now. ap length enters.numbers ∙ length-range_with_len (length t.jobs.items) n;
    life = life-new;
  }

  -- ---- all

  grown : (k : ℕ) (e : code.Instance) (z : Instance) → slice_get s.instances.items k ≡ Some e → IsAt ys k z
      → IsGrown r s k e z
  grown k e z at there =
      on_either (which k e at)
      (λ h.
      on_either (of-last xs entered k z there)
      (λ g. grown-old k e z h g)
      (λ g. let low = h.low in let is = g.0 in absurd (omega (arith, low, is))))
      (λ h.
      on_either (of-last xs entered k z there)
      (λ g. absurd (beyond k z h.0 g))
      (λ g.
      subst (λ q. IsGrown r s q e z) (sym h.0)
      (subst (λ a. IsGrown r s (length xs) a z) h.1
      (subst (IsGrown r s (length xs) enters.itself) g.1 grown-new))))

  are-more : AreMore xs ys (length xs) 0 n
  are-more = record {
    still = λ k q z u there sits. record {
      after = z;
      there = in-front xs (entered ∷ []) k z there;
      seat = u;
      sits = sits;
      name = refl;
      flow = refl;
      step = refl;
      place = refl;
    };
    before = λ k q z u there sits.
        on_either (of-last xs entered k z there)
        (λ h. inl (z, u, h, sits))
        (λ h.
        inr (
          q,
          h.0,
          slice_get_within o.seats.seats q u (subst (λ (a : Instance). slice_get a.seats q ≡ Some u) (sym h.1) sits),
          omega arith,
        ));
    new = λ q low.
        let u = get-within o.seats.seats q low in
        let same : 0 + q ≡ q = omega arith in
        (entered, u.0, get-end xs entered, ap (slice_get o.seats.seats) same ∙ u.1);
    low = λ q z u there sits. absurd (beyond (length xs) z refl there);
  }

  old-there : (k : ℕ) (c e : code.Instance) → slice_get r.instances.items k ≡ Some c
      → slice_get s.instances.items k ≡ Some e → IsOld k e
  old-there k c e was at =
      let low : k < length xs = subst (λ q. k < q) fits.as_many (slice_get_within r.instances.items k c was) in
      on_either (which k e at) (λ h. h) (λ h. let is = h.0 in absurd (omega (arith, low, is)))

  -- the one that was there is the same but for rooms
  same-old : (k : ℕ) (c e : code.Instance) → slice_get r.instances.items k ≡ Some c
      → slice_get s.instances.items k ≡ Some e → IsSameInstance c e
  same-old k c e was at =
      let h = old-there k c e was at in
      rooms.instances k c e (ap (λ l. slice_get l k) started.instances ∙ was) h.there

  -- ---- frames, and what is busy and due

  abbrev frame_of : Option code.Instance → Option Frame
  frame_of a = option_and_then (λ (c : code.Instance). option_map (λ (q : Open). q.frame) (slice_get c.open.items 0)) a

  none-there : frame_at r (length xs) ≡ None
  none-there =
      ap frame_of
      (slice_get_past r.instances.items (length xs) (let many = fits.as_many in omega (arith, many)))

  itself-there : slice_get s.instances.items (length xs) ≡ Some enters.itself
  itself-there =
      ap (λ l. slice_get l (length xs)) enters.instances
      ∙ ap (slice_get (t.instances.items ++ enters.itself ∷ [])) (sym many-t)
      ∙ get-end t.instances.items enters.itself

  others-stay : OthersStay (length xs) (frame_at r) (frame_at s)
  others-stay k ne =
      on_either (slice_get_cases s.instances.items k).1
      (λ h.
      on_either (which k h.0 h.2)
      (λ a.
      ap frame_of h.2
      ∙ ap (λ v. option_map (λ (p : Open). p.frame) (slice_get v.items 0))
      (rooms.instances k a.before h.0 a.in_m a.there).opened
      ∙ sym (ap frame_of a.was))
      (λ a. absurd (ne a.0)))
      (λ h.
      let long = h.0 in
      let many = many-s in
      let more = length-append xs (entered ∷ []) in
      let was = fits.as_many in
      ap frame_of h.1 ∙ sym (ap frame_of (slice_get_past r.instances.items k (omega (arith, long, many, more, was)))))

  theirs : AreTheirs s.pool (frame_at s)
  theirs =
      subst (λ q. AreTheirs q (frame_at s)) (sym (enters.around.pool ∙ rooms.pool))
      (theirs-started r.pool m.pool (frame_at r) (frame_at s) (length xs) o.frame fits.theirs none-there
      (frame-is s (length xs) enters.itself o [] itself-there enters.opened) others-stay starts.is_open.keeps.live
      started.own started.keeps)

  busy-is : s.busy.items ≡ r.busy.items ++ length xs ∷ []
  busy-is =
      enters.busy
      ∙ ap (λ l. l ++ length t.instances.items ∷ []) (rooms.busy ∙ started.busy)
      ∙ ap (λ k. r.busy.items ++ k ∷ []) many-t

  busy-then : (k : ℕ) (e : code.Instance) → slice_get s.instances.items k ≡ Some e → e.is_busy ≡ true
      → In k s.busy.items
  busy-then k e at b =
      subst (In k) (sym busy-is)
      (on_either (which k e at)
      (λ h.
      let same = rooms.instances k h.before e h.in_m h.there in
      let p = get-in k r.busy.items (fits.busy k h.before h.was (sym same.is_busy ∙ b)) in
      in-slice (r.busy.items ++ length xs ∷ []) p.0 k (in-front r.busy.items (length xs ∷ []) p.0 k p.1))
      (λ h.
      in-slice (r.busy.items ++ length xs ∷ []) (length r.busy.items) k
      (get-end r.busy.items (length xs) ∙ ap Some (sym h.0))))

  busy-low : (k : ℕ) → In k s.busy.items → k < length s.instances.items
  busy-low k h =
      let p = get-in k (r.busy.items ++ length xs ∷ []) (subst (In k) busy-is h) in
      let many = many-s in
      let more = length-append xs (entered ∷ []) in
      on_either (of-last r.busy.items (length xs) p.0 k p.1)
      (λ a.
      let low : k < length r.instances.items = fits.busy_low k (in-slice r.busy.items p.0 k a) in
      let was = fits.as_many in
      omega (arith, low, was, many, more))
      (λ a. let is = a.1 in omega (arith, is, many, more))

  due-is : s.due ≡ sum_by due_in ys
  due-is =
      let sum = sum_by_push due_in xs entered in
      let all = all-due o.seats.seats starts.new.waiting in
      let now = enters.due in
      let kept = rooms.due ∙ started.due ∙ fits.due_is in
      omega (arith, sum, all, now, kept)

  has-grown : HasGrown r s xs ys (length xs) 0 n
  has-grown = record {
    fits = fits;
    run = run-is;
    looks = enters.around.looks ∙ rooms.looks ∙ started.looks;
    more = are-more;
    jobs = jobs-are;
    as_many = many-s;
    each = grown;
    openers = λ k c e was at. (same-old k c e was at).opener;
    theirs = theirs;
    busy = busy-then;
    busy_low = busy-low;
    due_is = due-is;
  }

  pub adds-to : AddsTo r s (xs ++ entered ∷ [])
  adds-to = record {
    fits = fits-grown r s xs ys (length xs) 0 n has-grown;
    more = names_by ys (more_numbers (length xs) 0 n);
    names = names-grown r s xs ys (length xs) 0 n has-grown;
    run = run-is;
    entries = ap (λ v. v.items) enters.around.entries ∙ rooms.entries ∙ started.entries;
    failed = enters.around.failed ∙ rooms.failed ∙ started.failed;
    outs = enters.around.outs ∙ rooms.outs ∙ started.outs;
    opened = λ k c e was at. (same-old k c e was at).opened;
  }
