-- A run of which an open instance was told something, and what follows is so: it fits the instances that it has then.
use Rattle.std.specs.List.{range_with_len, sum_by}
use Rattle.std.specs.Prelude.{◌≡◌, ◌≢◌, refl, ℕ, zero, suc, ◌+◌, ◌-◌, ◌<◌, ◌≤◌, ◌⊎◌, ◌++◌, Bool, true, false, if◌then◌else◌, List, [], ◌∷◌, Option, Some, cond, count_by, is_some, length, map, option_and_then, option_map, slice_get}
use Rattle.std.proofs.Common.{ap, ap₂, arith, inl, inr, length-append, subst, sym, ◌∙◌}
use Rattle.std.proofs.lemmas.List.{length-map, length-set}
use Rattle.std.proofs.lemmas.List.FromFn.{length-range_with_len}
use Rattle.std.proofs.lemmas.List.Sums.{sum_by-append, sum_by-cons}
use Rattle.std.proofs.lemmas.Option.{none-some, same_Some, slice_get_within}
use Rattle.tv_lemmas.specs.Members.{In}
use Rattle.tv_lemmas.proofs.Cases.{on_either}
use Rattle.tv_lemmas.proofs.Lists.{get-within, in-front, in-behind, get-end}
use Rattle.tv_lemmas.proofs.Members.{get-in, in-slice}
use Rattle.tv_value.specs.Values.{Name}
use Rattle.tv_flow.specs.Flows.{Flow, Step}
use Rattle.tv_flow.specs.Views.{flow_view}
use Rattle.tv_check.specs.RunViews.{run_view}
use Rattle.tv_check.specs.declared.plans.FlowPlan.{FlowPlan}
use Rattle.tv_pool.specs.Pool.{number_of, region_at}
use Rattle.tv_stream.specs.nodes.Calls.{KeepsRegions}
use Rattle.tv_model.proofs.Tests.{true≠false}
use Rattle.tv_model.specs.instance.Events.{Event}
use Rattle.tv_instances.specs.FramingViews.{View}
use Rattle.tv_frame.specs.Tables.{levels_in}
use Rattle.tv_frame.specs.declared.frame.Frame.{Frame}
use Rattle.tv_frame_laws.specs.Theirs.{AreTheirs, OthersStay}
use Rattle.tv_frame_laws.proofs.Theirs.{theirs-called, theirs-only}
use Rattle.tv_seats.specs.Seats.{Seat}
use Rattle.tv_seats.specs.declared.stage.Stage.{Stage}
use Rattle.tv_seats.specs.declared.stage.Stage.TheVariants as stage
use Rattle.tv_instances.specs.seats.GoingOn.{GoesOn}
use Rattle.tv_instances.specs.seats.Seated.{AreAtSteps}
use Rattle.tv_instances.specs.Entries.{with_view, with_instance}
use Rattle.tv_instances.specs.Forest.{Instance, Instances, IsAt, names_by}
use Rattle.tv_instances.proofs.Lists.{at-set, of-set, one-at, same-number, to-set}
use Rattle.tv_instances.specs.Events.{IsTold}
use Rattle.tv_instances.specs.Standing.{IsOpen, job_of}
use Rattle.tv_instances.specs.declared.open.Open.{Open}
use Rattle.tv_run.specs.Changes.{ChangesTo, IsOpenHere, TellsIn}
use Rattle.tv_run.specs.Following.{FollowsIn, HasNumbers, OthersAreSame, unnumbered}
use Rattle.tv_run.specs.Looks.{IsFlow}
use Rattle.tv_run.specs.Standing.{Fits, IsKept, IsLife, IsOpenOf, due_in, frame_at, is_due}
use Rattle.tv_run.specs.declared.instances.Instance as code
use Rattle.tv_run.specs.declared.run.OpenRun.{OpenRun}
use Rattle.tv_run.proofs.Grown.{AreMore, HasGrown, IsGrown, fits-grown, get-either, more_jobs, more_numbers, names-grown, tells-more, tells-still}
use Rattle.tv_run.proofs.Moved.{at-steps, same-job, sum-set}
use Rattle.tv_run.proofs.Rooms.{seats_by}
use Rattle.tv_run.proofs.Opens.{frame-is, life-beside, open-any}

-- how many of these are due
abbrev pub due_seats : List Seat → ℕ
due_seats ss = count_by (λ s. is_due s.stage) ss

-- t is r but for the pool, what is due, and the Open of instance i, which was o and is p
pub record IsTurned (r t : OpenRun) (i : ℕ) (o p : Open) : Type 0 where
  pub run : t.run ≡ r.run
  pub looks : t.looks ≡ r.looks
  pub busy : t.busy ≡ r.busy
  pub jobs : t.jobs ≡ r.jobs
  pub entries : t.entries ≡ r.entries
  pub failed : t.failed ≡ r.failed
  pub outs : t.outs ≡ r.outs
  pub before : code.Instance
  pub was : slice_get r.instances.items i ≡ Some before
  pub after : code.Instance
  pub there : slice_get t.instances.items i ≡ Some after
  pub others : OthersAreSame r t i
  pub flow : after.flow ≡ before.flow
  pub opener : after.opener ≡ before.opener
  pub numbers : after.jobs ≡ before.jobs
  pub is_busy : after.is_busy ≡ before.is_busy
  pub opened : before.open.items ≡ o ∷ []
  pub is_open : after.open.items ≡ p ∷ []

-- how many of an Open's jobs have no number, where so many have
abbrev pub unnumbered_by : ℕ → List Open → ℕ
unnumbered_by n [] = 0
unnumbered_by n (q ∷ qs) = length q.seats.seats - n

-- ---- lists

steps-both : (steps : List (Name × Step)) (ss ns : List Seat) → AreAtSteps steps ss → AreAtSteps steps ns
    → AreAtSteps steps (ss ++ ns)
steps-both steps ss ns a b n s e = on_either (get-either ss ns n s e) (λ h. a n s h.0) (λ h. b h.0 s h.2)

abbrev one_due : Stage → ℕ
one_due x = cond (is_due x) 1 0

pub all-due : (ss : List Seat) → ((n : ℕ) (s : Seat) → slice_get ss n ≡ Some s → s.stage ≡ stage.Waiting)
    → due_seats ss ≡ length ss
all-due [] h = refl
all-due (s ∷ ss) h =
    let first = ap (λ x. one_due x) (h 0 s refl) in
    let cons = sum_by-cons (λ (x : Seat). one_due x.stage) s ss in
    let rest = all-due ss (λ n x e. h (suc n) x e) in
    omega (arith, first, cons, rest)

-- the list of those that are busy, with one more perhaps
abbrev pub busy_with : Bool → List ℕ → ℕ → List ℕ
busy_with b l i = if b then l else l ++ i ∷ []

pub busy-kept : (b : Bool) (l : List ℕ) (i k : ℕ) → In k l → In k (busy_with b l i)
busy-kept true l i k h = h
busy-kept false l i k h =
    let n = get-in k l h in in-slice (l ++ i ∷ []) n.0 k (in-front l (i ∷ []) n.0 k n.1)

pub busy-itself : (b : Bool) (l : List ℕ) (i : ℕ) → (b ≡ true → In i l) → In i (busy_with b l i)
busy-itself true l i h = h refl
busy-itself false l i h = in-slice (l ++ i ∷ []) (length l) i (get-end l i)

pub busy-was : (b : Bool) (l : List ℕ) (i k : ℕ) → In k (busy_with b l i) → In k l ⊎ (k ≡ i)
busy-was true l i k h = inl h
busy-was false l i k h =
    let n = get-in k (l ++ i ∷ []) h in
    on_either (get-either l (i ∷ []) n.0 k n.1)
    (λ w. inl (in-slice l n.0 k w.0))
    (λ w. inr (one w.0 w.2))
  where
    one : (p : ℕ) → slice_get (i ∷ []) p ≡ Some k → k ≡ i
    one zero e = sym (same_Some i k e)
    one (suc p) e = absurd (none-some k e)

-- ---- told

module _ (r t s : OpenRun) (xs : Instances) (i : ℕ) (x : Instance) (v : View) (o p : Open)
    (turned : IsTurned r t i o p) (here : IsOpenHere r xs i x v) (follows : FollowsIn t s i)
    (plan : FlowPlan) (of_flow : flow_view plan.flow ≡ x.flow) (e : Event) (more : ℕ) (ss : List Seat)
    (tells : IsTold (run_view r.run) plan t.pool p v e more ss) (same : map job_of ss ≡ map job_of x.seats)
    (regions : KeepsRegions r.pool t.pool (number_of o.frame.region)) (region : p.frame.region ≡ o.frame.region)
    (due : t.due + due_seats x.seats ≡ r.due + due_seats ss) (less : t.due ≤ r.due) where
  fits : Fits r xs
  fits = here.fits

  at : IsAt xs i x
  at = here.there

  abbrev w : View
  w = tells.view

  abbrev y : Instance
  y = with_view x w (ss ++ tells.new)

  abbrev ys : Instances
  ys = with_instance xs i y

  kept : IsKept r i turned.before x
  kept = fits.kept i turned.before x turned.was at

  life : IsOpenOf r turned.before x v
  life = subst (IsLife r turned.before x) here.is_open kept.life

  goes_on : GoesOn (run_view r.run) (levels_in x.flow) v w e tells.new
  goes_on = subst (λ f. GoesOn (run_view r.run) (levels_in f) v w e tells.new) life.flow tells.goes_on

  flow-is : w.flow ≡ x.flow
  flow-is = goes_on.follows.flow ∙ life.flow

  long : length ss ≡ length x.seats
  long = sym (length-map ss job_of) ∙ ap length same ∙ length-map x.seats job_of

  at-y : IsAt ys i y
  at-y = at-set xs i x y at

  -- ---- the jobs

  new-at : (q : ℕ) → q < more → (u : Seat) × (slice_get (ss ++ tells.new) (length x.seats + q) ≡ Some u)
  new-at q low =
      let u = get-within tells.new q (subst (λ n. q < n) (sym tells.many) low) in
      (u.0, ap (λ n. slice_get (ss ++ tells.new) (n + q)) (sym long) ∙ in-behind ss tells.new q ∙ u.1)

  are-more : AreMore xs ys i (length x.seats) more
  are-more = record {
    still = λ k m z u there sits.
        same-number k i
        (λ is.
        let old : z ≡ x = one-at xs i z x (subst (λ n. slice_get xs n ≡ Some z) is there) at in
        let q = same-job x.seats ss same m u (subst (λ (a : Instance). slice_get a.seats m ≡ Some u) old sits) in
        record {
          after = y;
          there = subst (λ n. IsAt ys n y) (sym is) at-y;
          seat = q.0;
          sits = in-front ss tells.new m q.0 q.1;
          name = sym (ap (λ (a : Instance). a.name) old);
          flow = sym (ap (λ (a : Instance). a.flow) old);
          step = q.2;
          place = q.3;
        })
        (λ ne. record {
          after = z;
          there = to-set xs i x y at k z ne there;
          seat = u;
          sits = sits;
          name = refl;
          flow = refl;
          step = refl;
          place = refl;
        });
    before = λ k m z u there sits.
        same-number k i
        (λ is.
        let now : z ≡ y = one-at ys i z y (subst (λ n. slice_get ys n ≡ Some z) is there) at-y in
        on_either (get-either ss tells.new m u (subst (λ (a : Instance). slice_get a.seats m ≡ Some u) now sits))
        (λ h.
        let q = same-job ss x.seats (sym same) m u h.0 in
        inl (x, q.0, subst (λ n. IsAt xs n x) (sym is) at, q.1))
        (λ h.
        inr (
          h.0,
          is,
          subst (λ n. h.0 < n) tells.many (slice_get_within tells.new h.0 u h.2),
          h.1 ∙ ap (λ n. n + h.0) long,
        )))
        (λ ne. inl (z, u, of-set xs i x y at k z ne there, sits));
    new = λ q low. let u = new-at q low in (y, u.0, at-y, u.1);
    low = λ m z u there sits.
        let old : z ≡ x = one-at xs i z x there at in
        slice_get_within x.seats m u (subst (λ (a : Instance). slice_get a.seats m ≡ Some u) old sits);
  }

  -- how many had numbers, and how many have none
  numbered-before : length turned.before.jobs.items ≡ length x.seats
  numbered-before = kept.as_many (ap is_some here.is_open)

  numbered-long : length turned.after.jobs.items ≡ length x.seats
  numbered-long = ap (λ l. length l.items) turned.numbers ∙ numbered-before

  unnumbered-is : unnumbered turned.after ≡ more
  unnumbered-is =
      let all : unnumbered turned.after ≡ length p.seats.seats - length turned.after.jobs.items =
      ap (unnumbered_by (length turned.after.jobs.items)) turned.is_open in
      let sum : length p.seats.seats ≡ length ss + length tells.new =
      ap length tells.seats ∙ length-append ss tells.new in
      let many = tells.many in
      let numbered = numbered-long in
      omega (arith, all, sum, many, numbered, long)

  jobs-are : s.jobs.items ≡ r.jobs.items ++ more_jobs i (length x.seats) more
  jobs-are =
      follows.jobs turned.after turned.there
      ∙ (λ j. (turned.jobs j).items ++ more_jobs i (numbered-long j) (unnumbered-is j))

  -- ---- itself

  itself : (f : code.Instance) → slice_get s.instances.items i ≡ Some f
      → HasNumbers (record turned.after { is_busy = true }) f
      (turned.after.jobs.items ++ range_with_len (length t.jobs.items) (unnumbered turned.after))
  itself f is = follows.itself turned.after f turned.there is

  open-of : (f : code.Instance) → slice_get s.instances.items i ≡ Some f → f.open.items ≡ p ∷ []
  open-of f is = ap (λ l. l.items) (itself f is).opened ∙ turned.is_open

  numbers-are : (f : code.Instance) → slice_get s.instances.items i ≡ Some f
      → f.jobs.items ≡ turned.before.jobs.items ++ range_with_len (length r.jobs.items) more
  numbers-are f is =
      (itself f is).jobs
      ∙ (λ j. (turned.numbers j).items ++ range_with_len (length (turned.jobs j).items) (unnumbered-is j))

  life-then : (f : code.Instance) → slice_get s.instances.items i ≡ Some f → IsLife s f y (Some w)
  life-then f is = record {
    itself = p;
    there = open-of f is;
    flow = flow-is;
    is_open = λ other h.
        subst (λ d. IsOpen (run_view d) other s.pool p w) (sym (follows.around.run ∙ turned.run))
        (subst (λ q. IsOpen (run_view r.run) other q p w) (sym follows.around.pool)
        (open-any (run_view r.run) plan other t.pool p w (h ∙ sym flow-is) tells.is_open));
    still = λ idle. absurd (true≠false (sym (itself f is).is_busy ∙ idle));
  }

  grown-here : (f : code.Instance) → slice_get s.instances.items i ≡ Some f → IsGrown r s i f y
  grown-here f is = record {
    flow = subst (λ n. IsFlow (run_view r.run) n x.flow) (sym ((itself f is).flow ∙ turned.flow)) kept.flow;
    seats = ap (seats_by f.seats) (open-of f is) ∙ tells.seats;
    steps =
        steps-both x.flow.steps ss tells.new (at-steps x.flow.steps x.seats ss same kept.steps)
        (subst (λ (g : Flow). AreAtSteps g.steps tells.new) life.flow goes_on.new.there);
    main = λ none. kept.main (sym ((itself f is).opener ∙ turned.opener) ∙ none);
    opener = λ m some. kept.opener m (sym ((itself f is).opener ∙ turned.opener) ∙ some);
    numbered =
        tells-more r s i (length x.seats) more turned.before.jobs.items f.jobs.items jobs-are numbered-before
        (numbers-are f is) kept.numbered;
    as_many = λ now.
        ap length (numbers-are f is)
        ∙ length-append turned.before.jobs.items (range_with_len (length r.jobs.items) more)
        ∙ ap₂ (λ a b. a + b) (numbered-before ∙ sym long) (length-range_with_len (length r.jobs.items) more ∙ sym tells.many)
        ∙ sym (length-append ss tells.new);
    life = life-then f is;
  }

  -- ---- the others

  run-is : s.run ≡ r.run
  run-is = follows.around.run ∙ turned.run

  many-are : length s.instances.items ≡ length r.instances.items
  many-are = follows.others.as_many ∙ turned.others.as_many

  other-is : (k : ℕ) (f : code.Instance) → k ≢ i → slice_get s.instances.items k ≡ Some f
      → slice_get r.instances.items k ≡ Some f
  other-is k f ne is = sym (turned.others.others k ne) ∙ sym (follows.others.others k ne) ∙ is

  grown-other : (k : ℕ) (f : code.Instance) (z : Instance) → k ≢ i → slice_get s.instances.items k ≡ Some f
      → IsAt xs k z → IsGrown r s k f z
  grown-other k f z ne is there =
      let was = fits.kept k f z (other-is k f ne is) there in
      record {
        flow = was.flow;
        seats = was.seats;
        steps = was.steps;
        main = was.main;
        opener = was.opener;
        numbered = tells-still r s i (length x.seats) more k f.jobs.items jobs-are was.numbered;
        as_many = was.as_many;
        life =
            life-beside r s f z z.view run-is
            (λ q h.
            ap (λ a. region_at a (number_of q.frame.region)) follows.around.pool
            ∙ theirs-only r.pool t.pool (frame_at r) i k o.frame q.frame fits.theirs
            (frame-is r i turned.before o [] turned.was turned.opened)
            (frame-is r k f q [] (other-is k f ne is) h) ne regions)
            was.life;
      }

  grown : (k : ℕ) (f : code.Instance) (z : Instance) → slice_get s.instances.items k ≡ Some f → IsAt ys k z
      → IsGrown r s k f z
  grown k f z is there =
      same-number k i
      (λ h.
      let now : z ≡ y = one-at ys i z y (subst (λ n. slice_get ys n ≡ Some z) h there) at-y in
      subst (λ n. IsGrown r s n f z) (sym h)
      (subst (IsGrown r s i f) (sym now)
      (grown-here f (subst (λ n. slice_get s.instances.items n ≡ Some f) h is))))
      (λ ne. grown-other k f z ne is (of-set xs i x y at k z ne there))

  openers-same : (k : ℕ) (c f : code.Instance) → slice_get r.instances.items k ≡ Some c
      → slice_get s.instances.items k ≡ Some f → f.opener ≡ c.opener
  openers-same k c f was is =
      same-number k i
      (λ h.
      (itself f (subst (λ n. slice_get s.instances.items n ≡ Some f) h is)).opener
      ∙ turned.opener
      ∙ ap (λ (a : code.Instance). a.opener)
      (same_Some turned.before c (sym turned.was ∙ subst (λ n. slice_get r.instances.items n ≡ Some c) h was)))
      (λ ne. ap (λ (a : code.Instance). a.opener) (same_Some f c (sym (other-is k f ne is) ∙ was)))

  -- ---- frames, and what is busy and due

  its-new : (f : code.Instance) × (slice_get s.instances.items i ≡ Some f)
  its-new =
      get-within s.instances.items i
      (subst (λ n. i < n) (sym many-are) (slice_get_within r.instances.items i turned.before turned.was))

  abbrev frame_of : Option code.Instance → Option Frame
  frame_of a = option_and_then (λ (c : code.Instance). option_map (λ (q : Open). q.frame) (slice_get c.open.items 0)) a

  others-stay : OthersStay i (frame_at r) (frame_at s)
  others-stay k ne = ap frame_of (follows.others.others k ne ∙ turned.others.others k ne)

  theirs : AreTheirs s.pool (frame_at s)
  theirs =
      subst (λ q. AreTheirs q (frame_at s)) (sym follows.around.pool)
      (theirs-called r.pool t.pool (frame_at r) (frame_at s) i o.frame p.frame fits.theirs
      (frame-is r i turned.before o [] turned.was turned.opened)
      (frame-is s i its-new.0 p [] its-new.1 (open-of its-new.0 its-new.1)) region others-stay regions)

  busy-is : s.busy.items ≡ busy_with turned.before.is_busy r.busy.items i
  busy-is =
      follows.busy turned.after turned.there
      ∙ (λ j. busy_with (turned.is_busy j) (turned.busy j).items i)

  busy-then : (k : ℕ) (f : code.Instance) → slice_get s.instances.items k ≡ Some f → f.is_busy ≡ true
      → In k s.busy.items
  busy-then k f is b =
      subst (In k) (sym busy-is)
      (same-number k i
      (λ h.
      subst (λ n. In n (busy_with turned.before.is_busy r.busy.items i)) (sym h)
      (busy-itself turned.before.is_busy r.busy.items i (fits.busy i turned.before turned.was)))
      (λ ne. busy-kept turned.before.is_busy r.busy.items i k (fits.busy k f (other-is k f ne is) b)))

  busy-low : (k : ℕ) → In k s.busy.items → k < length s.instances.items
  busy-low k h =
      subst (λ n. k < n) (sym many-are)
      (on_either (busy-was turned.before.is_busy r.busy.items i k (subst (In k) busy-is h))
      (λ a. fits.busy_low k a)
      (λ is.
      subst (λ n. n < length r.instances.items) (sym is)
      (slice_get_within r.instances.items i turned.before turned.was)))

  due-then : s.due ≡ t.due + more
  due-then = follows.due turned.after turned.there ∙ ap (λ n. t.due + n) unnumbered-is

  due-is : s.due ≡ sum_by due_in ys
  due-is =
      let both : due_seats (ss ++ tells.new) ≡ due_seats ss + due_seats tells.new =
      sum_by-append (λ (a : Seat). one_due a.stage) ss tells.new in
      let new = all-due tells.new goes_on.new.waiting in
      let many = tells.many in
      let sum = sum-set due_in xs i x y at in
      let was = fits.due_is in
      let now = due-then in
      omega (arith, both, new, many, sum, was, now, due)

  has-grown : HasGrown r s xs ys i (length x.seats) more
  has-grown = record {
    fits = fits;
    run = run-is;
    looks = follows.around.looks ∙ turned.looks;
    more = are-more;
    jobs = jobs-are;
    as_many = many-are ∙ fits.as_many ∙ sym (length-set xs i y);
    each = grown;
    openers = openers-same;
    theirs = theirs;
    busy = busy-then;
    busy_low = busy-low;
    due_is = due-is;
  }

  pub changes-told : ChangesTo r s ys
  changes-told = record {
    fits = fits-grown r s xs ys i (length x.seats) more has-grown;
    more = names_by ys (more_numbers i (length x.seats) more);
    names = names-grown r s xs ys i (length x.seats) more has-grown;
    rest = record {
      run = run-is;
      entries = follows.around.entries ∙ turned.entries;
      failed = follows.around.failed ∙ turned.failed;
      outs = follows.around.outs ∙ turned.outs;
    };
  }

  pub tells-in : TellsIn r s xs i x v e more ss
  tells-in = record {
    view = w;
    new = tells.new;
    goes_on = goes_on;
    many = tells.many;
    changes = changes-told;
    due = let now = due-then in omega (arith, now, less);
  }
