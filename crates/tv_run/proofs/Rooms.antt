-- What takes room alone leaves a run as it was before, and so it stands as it stood.
use Rattle.std.specs.Global.{Global}
use Rattle.std.specs.Option.{option_map_or}
use Rattle.std.specs.Vec.{with_item}
use Rattle.std.specs.Prelude.{◌≡◌, refl, ℕ, ◌+◌, ◌<◌, ◌≤◌, List, [], ◌∷◌, None, Option, Some, Vec, get_or, is_none, is_some, length, map, option_and_then, option_map, slice_get, vec_capacity}
use Rattle.std.proofs.Common.{ap, ap₂, arith, subst, sym, ◌∙◌}
use Rattle.std.proofs.lemmas.List.{length-set}
use Rattle.std.proofs.lemmas.Option.{same_Some, slice_get-get_or, slice_get_cases, slice_get_past, slice_get_within}
use Rattle.tv_lemmas.specs.Members.{In}
use Rattle.tv_instances.proofs.Lists.{at-set, same-number, to-set}
use Rattle.tv_lemmas.proofs.Cases.{on_either}
use Rattle.tv_lemmas.proofs.Lists.{get-within}
use Rattle.tv_gate.specs.Outcomes.{Giving}
use Rattle.tv_check.specs.RunViews.{run_view}
use Rattle.tv_pool.specs.Pool.{number_of, region_at}
use Rattle.tv_outputs.specs.Known.{Nodes}
use Rattle.tv_instances.specs.FramingViews.{View}
use Rattle.tv_frame.specs.Calls.{SameRegions}
use Rattle.tv_frame.specs.Tables.{levels_in}
use Rattle.tv_frame.specs.declared.frame.Frame.{Frame}
use Rattle.tv_frame_laws.specs.Theirs.{AreTheirs, Frames}
use Rattle.tv_frame_laws.proofs.Theirs.{theirs-refused}
use Rattle.tv_seats.specs.Seats.{Seat}
use Rattle.tv_seats.specs.Tables.{Rows}
use Rattle.tv_instances.specs.Forest.{Instance, Instances, Stand}
use Rattle.tv_history.specs.Runs.{IsLegalRun, Run, instances_of, past_of}
use Rattle.tv_instances.specs.Standing.{IsOpen}
use Rattle.tv_instances.specs.declared.open.Open.{Open}
use Rattle.tv_run.specs.Rooms.{IsAsBefore, IsSameButEntries, IsSameButRooms, IsSameInstance}
use Rattle.tv_run.specs.Standing.{Fits, IsLife, OutsAre, Stands, StandsOpen, failed_count, frame_at, names_of, seats_of}
use Rattle.tv_run.specs.Turns.{StaysAs}
use Rattle.tv_run.specs.declared.instances.Instance as code
use Rattle.tv_run.specs.declared.run.OpenRun.{OpenRun}
use Rattle.tv_run.proofs.Opens.{life-beside}
use Rattle.tv_run.proofs.Alike.{AreAlike, IsAlike, alike-there, fits-alike, names-alike}

-- ---- as before

pub before-itself : (r : OpenRun) → IsAsBefore r r
before-itself r = record {
  fits = λ xs f. f;
  same = refl;
  regions = λ n. refl;
  capacity = omega arith;
  due = refl;
  failed = refl;
  outs = refl;
}

pub before-then : (r s t : OpenRun) → IsAsBefore r s → IsAsBefore s t → IsAsBefore r t
before-then r s t a b = record {
  fits = λ xs f. b.fits xs (a.fits xs f);
  same = b.same ∙ a.same;
  regions = λ n. b.regions n ∙ a.regions n;
  capacity = let p = a.capacity in let q = b.capacity in omega (arith, p, q);
  due = b.due ∙ a.due;
  failed = b.failed ∙ a.failed;
  outs = b.outs ∙ a.outs;
}

module _ (gives : Giving) (r s : OpenRun) (b : IsAsBefore r s) where
  room-before : length r.entries.items + r.due ≤ vec_capacity r.entries
      → length s.entries.items + s.due ≤ vec_capacity s.entries
  room-before h =
      let entries : length s.entries.items ≡ length r.entries.items = ap (λ (q : Run). length q.entries) b.same in
      let due = b.due in
      let capacity = b.capacity in
      omega (arith, h, entries, due, capacity)

  pub stands-before : (xs : Instances) → Stands gives r xs → Stands gives s xs
  stands-before xs st = record {
    fits = b.fits xs st.fits;
    stand = subst (λ (q : Run). Stand gives q.document levels_in (past_of q) xs) (sym b.same) st.stand;
    named =
        subst (λ (q : Run). instances_of q.names q.entries ≡ map (λ (x : Instance). x.name) xs) (sym b.same) st.named;
    legal = subst (IsLegalRun gives) (sym b.same) st.legal;
    failed_is = b.failed ∙ st.failed_is ∙ ap (failed_count gives) (sym b.same);
    room = room-before st.room;
    outs_are = λ x at.
        subst (λ (q : Run). OutsAre gives q.document s.outs (is_none x.view)) (sym b.same)
        (subst (λ o. OutsAre gives (run_view r.run) o (is_none x.view)) (sym b.outs) (st.outs_are x at));
  }

  pub open-before : StandsOpen gives r → StandsOpen gives s
  open-before st = (st.0, stands-before st.0 st.1, b.outs ∙ st.2)

  pub stays-before : StandsOpen gives r → StaysAs gives r s
  stays-before st = record { stands = open-before st; same = b.same; regions = b.regions }

-- ---- the same but for rooms

-- the seats while it is open, and after
abbrev pub seats_by : Option Rows → List Open → List Seat
seats_by ended [] = option_map_or (λ (s : Rows). s.seats) ended []
seats_by ended (o ∷ os) = o.seats.seats

abbrev frame_of : Option code.Instance → Option Frame
frame_of o = option_and_then (λ (c : code.Instance). option_map (λ (p : Open). p.frame) (slice_get c.open.items 0)) o

-- frames that are the same are theirs
pub theirs-as : (pool : Nodes) (fs gs : Frames) → ((i : ℕ) → gs i ≡ fs i) → AreTheirs pool fs → AreTheirs pool gs
theirs-as pool fs gs like t = record {
  live = λ i f e. t.live i f (sym (like i) ∙ e);
  apart = λ i k f g e h. t.apart i k f g (sym (like i) ∙ e) (sym (like k) ∙ h);
  no_other = λ n there. let w = t.no_other n there in (w.0, w.1, like w.0 ∙ w.2, w.3);
}

module _ (r s : OpenRun) (same : IsSameButRooms r s) where
  alike : AreAlike r s
  alike = record {
    run = same.run;
    looks = same.looks;
    jobs = same.jobs;
    due = same.due;
    as_many = same.as_many;
    each = λ i c e at is.
        let h = same.instances i c e at is in
        record {
          flow = h.flow;
          opener = h.opener;
          jobs = h.jobs;
          seats = seats-same c e h;
        };
  }
    where
      seats-same : (c e : code.Instance) → IsSameInstance c e → seats_of e ≡ seats_of c
      seats-same c e h = ap₂ (λ l q. seats_by q l) (ap (λ v. v.items) h.opened) h.seats

  pub names-rooms : names_of s ≡ names_of r
  names-rooms = names-alike r s alike

  pub life-rooms : (c e : code.Instance) (x : Instance) (o : Option View) → IsSameInstance c e → IsLife r c x o
      → IsLife s e x o
  life-rooms c e x None h life = (ap (λ v. v.items) h.opened ∙ life.0, ap is_some h.seats ∙ life.1)
  life-rooms c e x (Some v) h life = record {
    itself = life.itself;
    there = ap (λ v. v.items) h.opened ∙ life.there;
    flow = life.flow;
    is_open = λ plan e.
        subst (λ q. IsOpen (run_view q) plan s.pool life.itself v) (sym same.run)
        (subst (λ p. IsOpen (run_view r.run) plan p life.itself v) (sym same.pool) (life.is_open plan e));
    still = λ idle. life.still (sym h.is_busy ∙ idle);
  }

  pub frames-rooms : (i : ℕ) → frame_at s i ≡ frame_at r i
  frames-rooms i =
      on_either (slice_get_cases s.instances.items i).1
      (λ w.
      let c = alike-there r s alike i w.0 w.2 in
      ap frame_of w.2
      ∙ ap (λ v. option_map (λ (p : Open). p.frame) (slice_get v.items 0)) (same.instances i c.0 w.0 c.1 w.2).opened
      ∙ sym (ap frame_of c.1))
      (λ w.
      ap frame_of w.1
      ∙ sym (ap frame_of (slice_get_past r.instances.items i (subst (λ n. n ≤ i) same.as_many w.0))))

  pub fits-rooms : (xs : Instances) → Fits r xs → Fits s xs
  fits-rooms xs fits =
      fits-alike r s alike xs fits
      (λ i c e x was is there kept. life-rooms c e x x.view (same.instances i c e was is) kept.life)
      (subst (λ p. AreTheirs p (frame_at s)) (sym same.pool)
      (theirs-as r.pool (frame_at r) (frame_at s) frames-rooms fits.theirs))
      (λ i e is busy.
      let c = alike-there r s alike i e is in
      subst (In i) (sym same.busy) (fits.busy i c.0 c.1 (sym (same.instances i c.0 e c.1 is).is_busy ∙ busy)))
      (λ i k.
      subst (λ n. i < n) (sym same.as_many) (fits.busy_low i (subst (In i) same.busy k)))

  pub before-rooms : IsAsBefore r s
  before-rooms = record {
    fits = fits-rooms;
    same = λ i. record { document = run_view (same.run i); names = names-rooms i; entries = same.entries i };
    regions = λ n. ap (λ p. region_at p n) same.pool;
    capacity = same.capacity;
    due = same.due;
    failed = same.failed;
    outs = same.outs;
  }

-- ---- the same but for the room of entries

module _ (r s : OpenRun) (same : IsSameButEntries r s) (entries : s.entries.items ≡ r.entries.items)
    (capacity : vec_capacity r.entries ≤ vec_capacity s.entries) where
  pub rooms-entries : IsSameButRooms r s
  rooms-entries = record {
    alloc = same.alloc;
    run = same.run;
    looks = same.looks;
    pool = same.pool;
    as_many = ap (λ v. length v.items) same.instances;
    instances = λ i c e was is.
        subst (IsSameInstance c) (sym (same_Some e c (sym is ∙ ap (λ v. slice_get v.items i) same.instances ∙ was)))
        (record { flow = refl; opener = refl; jobs = refl; is_busy = refl; opened = refl; seats = refl });
    busy = ap (λ v. v.items) same.busy;
    jobs = ap (λ v. v.items) same.jobs;
    entries = entries;
    capacity = capacity;
    due = same.due;
    failed = same.failed;
    outs = same.outs;
  }

  pub before-entries : IsAsBefore r s
  before-entries = before-rooms r s rooms-entries

-- ---- the same but for rooms, and a pool with the same regions

pub record IsSameButPool (r s : OpenRun) : Type 0 where
  pub rooms : IsSameButRooms r (record s { pool = r.pool })
  pub regions : SameRegions r.pool s.pool

module _ (r : OpenRun) (pool : Nodes) (regions : SameRegions r.pool pool) where
  abbrev after : OpenRun
  after = record r { pool = pool }

  alike-pool : AreAlike r after
  alike-pool = record {
    run = refl;
    looks = refl;
    jobs = refl;
    due = refl;
    as_many = refl;
    each = λ i c e was is.
        subst (IsAlike c) (same_Some c e (sym was ∙ is)) (record { flow = refl; opener = refl; jobs = refl; seats = refl });
  }

  pub before-pool : IsAsBefore r after
  before-pool = record {
    fits = λ xs fits.
        fits-alike r after alike-pool xs fits
        (λ i c e x was is there kept.
        subst (λ g. IsLife after g x x.view) (same_Some c e (sym was ∙ is))
        (life-beside r after c x x.view refl (λ o h. regions (number_of o.frame.region)) kept.life))
        (theirs-refused r.pool pool (frame_at r) fits.theirs regions) fits.busy fits.busy_low;
    same = λ i. record {
      document = run_view r.run;
      names = names-alike r after alike-pool i;
      entries = r.entries.items;
    };
    regions = regions;
    capacity = omega arith;
    due = refl;
    failed = refl;
    outs = refl;
  }

pub before-but_pool : (r s : OpenRun) → IsSameButPool r s → IsAsBefore r s
before-but_pool r s h =
    before-then r (record s { pool = r.pool }) s (before-rooms r (record s { pool = r.pool }) h.rooms)
    (before-pool (record s { pool = r.pool }) s.pool h.regions)

-- ---- one room after another

pub rooms-after : (r s t : OpenRun) → IsSameButRooms r s → IsSameButRooms s t → IsSameButRooms r t
rooms-after r s t a b = record {
  alloc = b.alloc ∙ a.alloc;
  run = b.run ∙ a.run;
  looks = b.looks ∙ a.looks;
  pool = b.pool ∙ a.pool;
  as_many = b.as_many ∙ a.as_many;
  instances = λ i c e was is.
      let d = between i c was in
      let g = a.instances i c d.0 was d.1 in
      let h = b.instances i d.0 e d.1 is in
      record {
        flow = h.flow ∙ g.flow;
        opener = h.opener ∙ g.opener;
        jobs = h.jobs ∙ g.jobs;
        is_busy = h.is_busy ∙ g.is_busy;
        opened = h.opened ∙ g.opened;
        seats = h.seats ∙ g.seats;
      };
  busy = b.busy ∙ a.busy;
  jobs = b.jobs ∙ a.jobs;
  entries = b.entries ∙ a.entries;
  capacity = let p = a.capacity in let q = b.capacity in omega (arith, p, q);
  due = b.due ∙ a.due;
  failed = b.failed ∙ a.failed;
  outs = b.outs ∙ a.outs;
}
  where
    between : (i : ℕ) (c : code.Instance) → slice_get r.instances.items i ≡ Some c
        → (d : code.Instance) × (slice_get s.instances.items i ≡ Some d)
    between i c was =
        get-within s.instances.items i
        (subst (λ n. i < n) (sym a.as_many) (slice_get_within r.instances.items i c was))

-- with other room for the numbers of one instance
module _ (r : OpenRun) (i : ℕ) (c : code.Instance) (jobs : Vec ℕ Global) (low : i < length r.instances.items)
    (is : c ≡ get_or r.instances.items i c) (same : jobs.items ≡ c.jobs.items) where
  abbrev pub with_jobs : code.Instance
  with_jobs = record c { jobs = jobs }

  abbrev pub with_numbers : OpenRun
  with_numbers = record r { instances = with_item r.instances i with_jobs }

  at-it : slice_get r.instances.items i ≡ Some c
  at-it = slice_get-get_or r.instances.items i c low ∙ ap Some (sym is)

  pub at-with_jobs : slice_get with_numbers.instances.items i ≡ Some with_jobs
  at-with_jobs = at-set r.instances.items i c with_jobs at-it

  pub rooms-numbers : IsSameButRooms r with_numbers
  rooms-numbers = record {
    alloc = refl;
    run = refl;
    looks = refl;
    pool = refl;
    as_many = length-set r.instances.items i with_jobs;
    instances = λ k d e was now.
        same-number k i
        (λ h.
        let old = same_Some c d (sym at-it ∙ subst (λ n. slice_get r.instances.items n ≡ Some d) h was) in
        let new =
        same_Some with_jobs e (sym at-with_jobs ∙ subst (λ n. slice_get with_numbers.instances.items n ≡ Some e) h now) in
        subst (λ x. IsSameInstance x e) old
        (subst (IsSameInstance c) new
        (record { flow = refl; opener = refl; jobs = same; is_busy = refl; opened = refl; seats = refl })))
        (λ ne.
        subst (IsSameInstance d) (same_Some d e (sym (to-set r.instances.items i c with_jobs at-it k d ne was) ∙ now))
        (record { flow = refl; opener = refl; jobs = refl; is_busy = refl; opened = refl; seats = refl }));
    busy = refl;
    jobs = refl;
    entries = refl;
    capacity = omega arith;
    due = refl;
    failed = refl;
    outs = refl;
  }
