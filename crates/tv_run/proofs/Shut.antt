-- A run of which one instance has ended: it fits the instances that it has then.
use Rattle.std.specs.Option.{option_map_or}
use Rattle.std.specs.Global.{Global}
use Rattle.std.specs.Vec.{with_item}
use Rattle.std.specs.Prelude.{Vec, ◌≡◌, ◌≢◌, refl, ℕ, ◌<◌, ◌≤◌, ◌++◌, true, [], ◌∷◌, None, Option, Some, is_some, length, option_and_then, option_map, slice_get, slice_index_or, slice_set}
use Rattle.std.proofs.Common.{ap, append-nil, arith, inl, subst, sym, ◌∙◌}
use Rattle.std.proofs.lemmas.List.{length-set}
use Rattle.std.proofs.lemmas.Option.{none-some, same_Some, slice_get_within}
use Rattle.tv_lemmas.specs.Members.{In}
use Rattle.tv_check.specs.RunViews.{run_view}
use Rattle.tv_pool.specs.Pool.{number_of, regions_with}
use Rattle.tv_model.proofs.Tests.{true≠false}
use Rattle.tv_outputs.specs.Known.{Nodes}
use Rattle.tv_instances.specs.FramingViews.{View}
use Rattle.tv_frame.specs.declared.frame.Frame.{Frame}
use Rattle.tv_frame_laws.specs.Theirs.{AreTheirs, OthersStay}
use Rattle.tv_frame_laws.proofs.Frames.{releases-keep}
use Rattle.tv_frame_laws.proofs.Theirs.{theirs-released}
use Rattle.tv_seats.specs.Tables.{Rows}
use Rattle.tv_seats.proofs.Staging.{set-other}
use Rattle.tv_instances.specs.Entries.{shut, with_instance}
use Rattle.tv_instances.specs.Forest.{Instance, Instances, IsAt}
use Rattle.tv_instances.proofs.Lists.{at-set, of-set, one-at, same-number, to-set}
use Rattle.tv_instances.specs.declared.open.Open.{Open}
use Rattle.tv_run.specs.Changes.{ChangesTo, IsOpenHere, LeavesOthers}
use Rattle.tv_run.specs.Following.{OthersAreSame}
use Rattle.tv_run.specs.Looks.{IsFlow}
use Rattle.tv_run.specs.Standing.{Fits, IsKept, due_in, frame_at, names_of, seats_of}
use Rattle.tv_run.specs.declared.instances.Instance as code
use Rattle.tv_run.specs.declared.run.OpenRun.{OpenRun}
use Rattle.tv_run.specs.declared.slots.Leftover.{Leftover}
use Rattle.tv_run.proofs.Grown.{AreMore, HasGrown, IsGrown, fits-grown, more_jobs, names-grown, tells-still}
use Rattle.tv_run.proofs.Itself.{its, its-code, o, read-is}
use Rattle.tv_run.proofs.JobLemmas.{seats_by}
use Rattle.tv_run.proofs.Moved.{sum-set}
use Rattle.tv_run.proofs.Opens.{frame-is, life-beside}

-- s is r but for the pool, which has the region of instance i no more, and that this has its seats alone
pub record IsShut (r s : OpenRun) (i : ℕ) (itself : Open) : Type 0 where
  pub run : s.run ≡ r.run
  pub looks : s.looks ≡ r.looks
  pub busy : s.busy ≡ r.busy
  pub jobs : s.jobs ≡ r.jobs
  pub entries : s.entries ≡ r.entries
  pub due : s.due ≡ r.due
  pub failed : s.failed ≡ r.failed
  pub outs : s.outs ≡ r.outs
  pub before : code.Instance
  pub was : slice_get r.instances.items i ≡ Some before
  pub after : code.Instance
  pub there : slice_get s.instances.items i ≡ Some after
  pub others : OthersAreSame r s i
  pub flow : after.flow ≡ before.flow
  pub opener : after.opener ≡ before.opener
  pub none_numbered : after.jobs.items ≡ []
  pub is_busy : after.is_busy ≡ before.is_busy
  pub opened : before.open.items ≡ itself ∷ []
  pub closed : after.open.items ≡ []
  pub left : Rows
  pub is_left : after.seats ≡ Some left
  pub seats : left.seats ≡ itself.seats.seats
  pub gone : s.pool.regions ≡ regions_with r.pool (number_of itself.frame.region) None

module _ (r s : OpenRun) (xs : Instances) (i : ℕ) (x : Instance) (v : View) (itself : Open) (w : IsShut r s i itself)
    (here : IsOpenHere r xs i x v) where
  fits : Fits r xs
  fits = here.fits

  at : IsAt xs i x
  at = here.there

  abbrev ys : Instances
  ys = with_instance xs i (shut x)

  kept : IsKept r i w.before x
  kept = fits.kept i w.before x w.was at

  at-shut : IsAt ys i (shut x)
  at-shut = at-set xs i x (shut x) at

  -- ---- the jobs

  are-more : AreMore xs ys i (length x.seats) 0
  are-more = record {
    still = λ k m z u there sits.
        same-number k i
        (λ is.
        let old : z ≡ x = one-at xs i z x (subst (λ n. slice_get xs n ≡ Some z) is there) at in
        record {
          after = shut x;
          there = subst (λ n. IsAt ys n (shut x)) (sym is) at-shut;
          seat = u;
          sits = subst (λ (a : Instance). slice_get a.seats m ≡ Some u) old sits;
          name = sym (ap (λ (a : Instance). a.name) old);
          flow = sym (ap (λ (a : Instance). a.flow) old);
          step = refl;
          place = refl;
        })
        (λ ne. record {
          after = z;
          there = to-set xs i x (shut x) at k z ne there;
          seat = u;
          sits = sits;
          name = refl;
          flow = refl;
          step = refl;
          place = refl;
        });
    before = λ k m z u there sits.
        same-number k i
        (λ is.
        let now : z ≡ shut x = one-at ys i z (shut x) (subst (λ n. slice_get ys n ≡ Some z) is there) at-shut in
        inl (
          x,
          u,
          subst (λ n. IsAt xs n x) (sym is) at,
          subst (λ (a : Instance). slice_get a.seats m ≡ Some u) now sits,
        ))
        (λ ne. inl (z, u, of-set xs i x (shut x) at k z ne there, sits));
    new = λ p low. absurd (omega (arith, low));
    low = λ m z u there sits.
        let old : z ≡ x = one-at xs i z x there at in
        slice_get_within x.seats m u (subst (λ (a : Instance). slice_get a.seats m ≡ Some u) old sits);
  }

  jobs-are : s.jobs.items ≡ r.jobs.items ++ more_jobs i (length x.seats) 0
  jobs-are = ap (λ l. l.items) w.jobs ∙ sym (append-nil r.jobs.items)

  -- ---- the instances

  seats-left : seats_of w.after ≡ x.seats
  seats-left =
      ap (seats_by w.after.seats) w.closed
      ∙ ap (λ q. option_map_or (λ (a : Rows). a.seats) q []) w.is_left
      ∙ w.seats
      ∙ sym (ap (seats_by w.before.seats) w.opened)
      ∙ kept.seats

  grown-here : IsGrown r s i w.after (shut x)
  grown-here = record {
    flow = subst (λ n. IsFlow (run_view r.run) n x.flow) (sym w.flow) kept.flow;
    seats = seats-left;
    steps = kept.steps;
    main = λ none. kept.main (sym w.opener ∙ none);
    opener = λ m some. kept.opener m (sym w.opener ∙ some);
    numbered =
        tells-still r s i (length x.seats) 0 i w.after.jobs.items jobs-are
        (λ m k e. absurd (none-some k (sym (ap (λ l. slice_get l m) w.none_numbered) ∙ e)));
    as_many = λ now. absurd (true≠false (sym now));
    life = (w.closed, ap is_some w.is_left);
  }

  other-is : (k : ℕ) (f : code.Instance) → k ≢ i → slice_get s.instances.items k ≡ Some f
      → slice_get r.instances.items k ≡ Some f
  other-is k f ne is = sym (w.others.others k ne) ∙ is

  abbrev released : ℕ
  released = number_of itself.frame.region

  its-frame : frame_at r i ≡ Some itself.frame
  its-frame = frame-is r i w.before itself [] w.was w.opened

  grown-other : (k : ℕ) (f : code.Instance) (z : Instance) → k ≢ i → slice_get s.instances.items k ≡ Some f
      → IsAt xs k z → IsGrown r s k f z
  grown-other k f z ne is there =
      let was = fits.kept k f z (other-is k f ne is) there in
      record {
        flow = was.flow;
        seats = was.seats;
        steps = was.steps;
        main = was.main;
        opener = was.opener;
        numbered = tells-still r s i (length x.seats) 0 k f.jobs.items jobs-are was.numbered;
        as_many = was.as_many;
        life =
            life-beside r s f z z.view w.run
            (λ q h.
            releases-keep r.pool s.pool q.frame released
            (λ e. ne (fits.theirs.apart k i q.frame itself.frame (frame-is r k f q [] (other-is k f ne is) h) its-frame e))
            w.gone)
            was.life;
      }

  grown : (k : ℕ) (f : code.Instance) (z : Instance) → slice_get s.instances.items k ≡ Some f → IsAt ys k z
      → IsGrown r s k f z
  grown k f z is there =
      same-number k i
      (λ h.
      let now : z ≡ shut x = one-at ys i z (shut x) (subst (λ n. slice_get ys n ≡ Some z) h there) at-shut in
      let same : f ≡ w.after =
      same_Some f w.after (sym (subst (λ n. slice_get s.instances.items n ≡ Some f) h is) ∙ w.there) in
      subst (λ n. IsGrown r s n f z) (sym h)
      (subst (λ g. IsGrown r s i g z) (sym same) (subst (IsGrown r s i w.after) (sym now) grown-here)))
      (λ ne. grown-other k f z ne is (of-set xs i x (shut x) at k z ne there))

  openers-same : (k : ℕ) (c f : code.Instance) → slice_get r.instances.items k ≡ Some c
      → slice_get s.instances.items k ≡ Some f → f.opener ≡ c.opener
  openers-same k c f was is =
      same-number k i
      (λ h.
      ap (λ (a : code.Instance). a.opener)
      (same_Some f w.after (sym (subst (λ n. slice_get s.instances.items n ≡ Some f) h is) ∙ w.there))
      ∙ w.opener
      ∙ ap (λ (a : code.Instance). a.opener)
      (same_Some w.before c (sym w.was ∙ subst (λ n. slice_get r.instances.items n ≡ Some c) h was)))
      (λ ne. ap (λ (a : code.Instance). a.opener) (same_Some f c (sym (other-is k f ne is) ∙ was)))

  -- ---- frames, and what is busy and due

  abbrev frame_of : Option code.Instance → Option Frame
  frame_of a = option_and_then (λ (c : code.Instance). option_map (λ (q : Open). q.frame) (slice_get c.open.items 0)) a

  no-frame : frame_at s i ≡ None
  no-frame =
      ap frame_of w.there ∙ ap (λ l. option_map (λ (q : Open). q.frame) (slice_get l 0)) w.closed

  others-stay : OthersStay i (frame_at r) (frame_at s)
  others-stay k ne = ap frame_of (w.others.others k ne)

  theirs : AreTheirs s.pool (frame_at s)
  theirs =
      theirs-released r.pool s.pool (frame_at r) (frame_at s) i itself.frame fits.theirs its-frame no-frame others-stay w.gone

  busy-then : (k : ℕ) (f : code.Instance) → slice_get s.instances.items k ≡ Some f → f.is_busy ≡ true
      → In k s.busy.items
  busy-then k f is b =
      subst (λ l. In k l.items) (sym w.busy)
      (same-number k i
      (λ h.
      let same : f ≡ w.after =
      same_Some f w.after (sym (subst (λ n. slice_get s.instances.items n ≡ Some f) h is) ∙ w.there) in
      subst (λ n. In n r.busy.items) (sym h)
      (fits.busy i w.before w.was (sym w.is_busy ∙ ap (λ (a : code.Instance). a.is_busy) (sym same) ∙ b)))
      (λ ne. fits.busy k f (other-is k f ne is) b))

  has-grown : HasGrown r s xs ys i (length x.seats) 0
  has-grown = record {
    fits = fits;
    run = w.run;
    looks = w.looks;
    more = are-more;
    jobs = jobs-are;
    as_many = w.others.as_many ∙ fits.as_many ∙ sym (length-set xs i (shut x));
    each = grown;
    openers = openers-same;
    theirs = theirs;
    busy = busy-then;
    busy_low = λ k h.
        subst (λ n. k < n) (sym w.others.as_many) (fits.busy_low k (subst (λ l. In k l.items) w.busy h));
    due_is =
        let sum = sum-set due_in xs i x (shut x) at in
        let was = fits.due_is in
        let same = w.due in
        omega (arith, sum, was, same);
  }

  pub names-shut : names_of s ≡ names_of r
  names-shut =
      names-grown r s xs ys i (length x.seats) 0 has-grown ∙ append-nil (names_of r)

  pub changes-shut : ChangesTo r s ys
  changes-shut = record {
    fits = fits-grown r s xs ys i (length x.seats) 0 has-grown;
    more = [];
    names = names-shut ∙ sym (append-nil (names_of r));
    rest = record { run = w.run; entries = w.entries; failed = w.failed; outs = w.outs };
  }

-- ---- as the code does it

-- s is r with this in the place of what is read there: it has seats like those of p, whose region is released
pub record IsClosed (r s : OpenRun) (i : ℕ) (c : code.Instance) (p : Open) : Type 0 where
  pub run : s.run ≡ r.run
  pub looks : s.looks ≡ r.looks
  pub busy : s.busy ≡ r.busy
  pub jobs : s.jobs ≡ r.jobs
  pub entries : s.entries ≡ r.entries
  pub due : s.due ≡ r.due
  pub failed : s.failed ≡ r.failed
  pub outs : s.outs ≡ r.outs
  pub then_is : code.Instance
  pub instances : s.instances.items ≡ slice_set r.instances.items i then_is
  pub flow : then_is.flow ≡ c.flow
  pub opener : then_is.opener ≡ c.opener
  pub none_numbered : then_is.jobs.items ≡ []
  pub is_busy : then_is.is_busy ≡ c.is_busy
  pub closed : then_is.open.items ≡ []
  pub left : Rows
  pub is_left : then_is.seats ≡ Some left
  pub seats : left.seats ≡ p.seats.seats
  pub gone : s.pool.regions ≡ regions_with r.pool (number_of p.frame.region) None

-- the run with this instance closed
abbrev pub with_closed : OpenRun → ℕ → code.Instance → Vec Open Global → Vec ℕ Global → Rows → Nodes → Vec Leftover Global
    → OpenRun
with_closed r i c none numbers left pool leftovers =
    record r {
      pool = pool;
      leftovers = leftovers;
      instances =
          with_item r.instances i
          (record {
            flow = c.flow;
            opener = c.opener;
            jobs = numbers;
            is_busy = c.is_busy;
            «open» = none;
            seats = Some left;
          });
    }

pub closes : (r : OpenRun) (i : ℕ) (c : code.Instance) (p : Open) (none : Vec Open Global) → none.items ≡ []
    → (numbers : Vec ℕ Global) → numbers.items ≡ []
    → (left : Rows) → left.seats ≡ p.seats.seats → (pool : Nodes)
    → pool.regions ≡ regions_with r.pool (number_of p.frame.region) None → (leftovers : Vec Leftover Global)
    → IsClosed r (with_closed r i c none numbers left pool leftovers) i c p
closes r i c p none empty numbers cleared left seats pool gone leftovers = record {
  run = refl;
  looks = refl;
  busy = refl;
  jobs = refl;
  entries = refl;
  due = refl;
  failed = refl;
  outs = refl;
  then_is = record {
    flow = c.flow;
    opener = c.opener;
    jobs = numbers;
    is_busy = c.is_busy;
    «open» = none;
    seats = Some left;
  };
  instances = refl;
  flow = refl;
  opener = refl;
  none_numbered = cleared;
  is_busy = refl;
  closed = empty;
  left = left;
  is_left = refl;
  seats = seats;
  gone = gone;
}

module _ (r : OpenRun) (i : ℕ) (xs : Instances) (x : Instance) (v : View) (here : IsOpenHere r xs i x v) (s : OpenRun)
    (c : code.Instance) (read : c ≡ slice_index_or r.instances.items i c) (p : Open) (same : p ≡ o r i xs x v here)
    (w : IsClosed r s i c p) where
  pub is-shut : IsShut r s i (o r i xs x v here)
  is-shut = record {
    run = w.run;
    looks = w.looks;
    busy = w.busy;
    jobs = w.jobs;
    entries = w.entries;
    due = w.due;
    failed = w.failed;
    outs = w.outs;
    before = its r i xs x v here;
    was = (its-code r i xs x v here).there;
    after = w.then_is;
    there =
        ap (λ l. slice_get l i) w.instances
        ∙ at-set r.instances.items i (its r i xs x v here) w.then_is (its-code r i xs x v here).there;
    others = record {
      as_many = ap length w.instances ∙ length-set r.instances.items i w.then_is;
      others = λ k ne.
          ap (λ l. slice_get l k) w.instances ∙ set-other r.instances.items i k w.then_is ne;
    };
    flow = w.flow ∙ ap (λ (g : code.Instance). g.flow) (read-is r i xs x v here c read);
    opener = w.opener ∙ ap (λ (g : code.Instance). g.opener) (read-is r i xs x v here c read);
    none_numbered = w.none_numbered;
    is_busy = w.is_busy ∙ ap (λ (g : code.Instance). g.is_busy) (read-is r i xs x v here c read);
    opened = (its-code r i xs x v here).opened.there;
    closed = w.closed;
    left = w.left;
    is_left = w.is_left;
    seats = w.seats ∙ ap (λ (a : Open). a.seats.seats) same;
    gone = w.gone ∙ ap (λ (a : Open). regions_with r.pool (number_of a.frame.region) None) same;
  }

  pub names-closed : names_of s ≡ names_of r
  names-closed = names-shut r s xs i x v (o r i xs x v here) is-shut here

  pub changes-closed : ChangesTo r s (with_instance xs i (shut x))
  changes-closed = changes-shut r s xs i x v (o r i xs x v here) is-shut here

  pub leaves-others : r.pool.spare ≤ s.pool.spare → LeavesOthers r s i
  leaves-others spare = record {
    others = is-shut.others;
    busy = w.busy;
    jobs = w.jobs;
    regions = λ k e q ne at opened.
        releases-keep r.pool s.pool q.frame (number_of (o r i xs x v here).frame.region)
        (λ h.
        ne
        (here.fits.theirs.apart k i q.frame (o r i xs x v here).frame (frame-is r k e q [] at opened)
        (frame-is r i (its r i xs x v here) (o r i xs x v here) [] (its-code r i xs x v here).there
        (its-code r i xs x v here).opened.there)
        h))
        is-shut.gone;
    spare = spare;
  }
