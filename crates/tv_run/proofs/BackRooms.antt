-- Open instances that take room for all that is out of them leave a run as it was before.
use Rattle.std.specs.Option.{option_map_or}
use Rattle.std.specs.Prelude.{◌≡◌, ◌≢◌, refl, ℕ, suc, ◌+◌, ◌<◌, ◌≤◌, List, [], ◌∷◌, None, Option, Some, is_some, length, map, option_and_then, option_map, slice_get, vec_capacity}
use Rattle.std.proofs.Common.{ap, arith, subst, sym, ◌∙◌, suc-ne-zero}
use Rattle.std.proofs.lemmas.Option.{same_Some, slice_get_cases, slice_get_past, slice_get_within}
use Rattle.tv_lemmas.specs.Members.{In}
use Rattle.tv_lemmas.proofs.Cases.{on_either}
use Rattle.tv_lemmas.proofs.Lists.{get-within}
use Rattle.tv_check.specs.RunViews.{run_view}
use Rattle.tv_check.specs.declared.plans.FlowPlan.{FlowPlan}
use Rattle.tv_pool.specs.Pool.{region_at}
use Rattle.tv_intake.specs.Intaken.{known_jobs}
use Rattle.tv_instances.specs.FramingViews.{View}
use Rattle.tv_frame.specs.Kept.{Keeps}
use Rattle.tv_frame.specs.declared.frame.Frame.{Frame}
use Rattle.tv_frame_laws.specs.Theirs.{AreTheirs}
use Rattle.tv_seats.specs.Seats.{Seat}
use Rattle.tv_seats.specs.Tables.{Rows}
use Rattle.tv_instances.specs.Forest.{Instance, Instances}
use Rattle.tv_instances.proofs.Lists.{same-number}
use Rattle.tv_instances.specs.Standing.{IsOpen, job_of}
use Rattle.tv_instances.specs.Tries.{IsSameButRooms}
use Rattle.tv_instances.proofs.TrieLemmas.{kept-with, quiet-roomy}
use Rattle.tv_instances.specs.declared.open.Open.{Open}
use Rattle.tv_run.specs.Following.{HasSameAround}
use Rattle.tv_run.specs.Recalling.{HasRoomsIn, HasSameOpens, OtherRoomsIn}
use Rattle.tv_run.specs.Rooms.{IsAsBefore}
use Rattle.tv_run.specs.Standing.{Fits, IsLife, frame_at, seats_of}
use Rattle.tv_run.specs.declared.instances.Instance as code
use Rattle.tv_run.specs.declared.run.OpenRun.{OpenRun}
use Rattle.tv_run.proofs.Alike.{AreAlike, alike-there, fits-alike, names-alike}
use Rattle.tv_run.proofs.Rooms.{theirs-as}

abbrev seats_by : Option Rows → List Open → List Seat
seats_by ended [] = option_map_or (λ (s : Rows). s.seats) ended []
seats_by ended (o ∷ os) = o.seats.seats

-- ---- two lists of one length

-- both have a first, or neither has
record AreFirsts (os ps : List Open) (o : Open) : Type 0 where
  pub other : Open
  pub rest : List Open
  pub is : ps ≡ other ∷ rest
  pub many : (os ≡ o ∷ []) → rest ≡ []

first-of : (os ps : List Open) (o : Open) (more : List Open) → os ≡ o ∷ more → length ps ≡ length os → AreFirsts os ps o
first-of os [] o more e many = absurd (suc-ne-zero (length more) (sym (many ∙ ap length e)))
first-of os (p ∷ ps) o more e many = record {
  other = p;
  rest = ps;
  is = refl;
  many = λ h. by ps (many ∙ ap length h);
}
  where
    by : (l : List Open) → length (p ∷ l) ≡ 1 → l ≡ []
    by [] k = refl
    by (q ∷ qs) k = absurd (two (length qs) k)
      where
        two : (n : ℕ) → suc (suc n) ≡ 1 → ⊥
        two n h = omega (arith, h)

none-of : (os ps : List Open) → os ≡ [] → length ps ≡ length os → ps ≡ []
none-of os [] e many = refl
none-of os (p ∷ ps) e many = absurd (suc-ne-zero (length ps) (many ∙ ap length e))

-- ---- one instance

module _ (c e : code.Instance) (h : HasSameOpens c e) where
  seats-same : seats_of e ≡ seats_of c
  seats-same = by c.open.items refl
    where
      by : (l : List Open) → c.open.items ≡ l → seats_of e ≡ seats_of c
      by [] f = λ i. seats_by (h.seats i) ((none-of c.open.items e.open.items f h.as_many ∙ sym f) i)
      by (o ∷ os) f =
          let p = first-of c.open.items e.open.items o os f h.as_many in
          ap (seats_by e.seats) p.is
          ∙ (h.opens o p.other (ap (λ l. slice_get l 0) f) (ap (λ l. slice_get l 0) p.is)).seats
          ∙ sym (ap (seats_by c.seats) f)

  frame-same : option_map (λ (p : Open). p.frame) (slice_get e.open.items 0)
      ≡ option_map (λ (p : Open). p.frame) (slice_get c.open.items 0)
  frame-same = by c.open.items refl
    where
      frame_in : List Open → Option Frame
      frame_in l = option_map (λ (p : Open). p.frame) (slice_get l 0)

      by : (l : List Open) → c.open.items ≡ l → frame_in e.open.items ≡ frame_in c.open.items
      by [] f = ap frame_in (none-of c.open.items e.open.items f h.as_many ∙ sym f)
      by (o ∷ os) f =
          let p = first-of c.open.items e.open.items o os f h.as_many in
          ap frame_in p.is
          ∙ ap Some (h.opens o p.other (ap (λ l. slice_get l 0) f) (ap (λ l. slice_get l 0) p.is)).frame
          ∙ sym (ap frame_in f)

pub opens-itself : (c : code.Instance) → HasSameOpens c c
opens-itself c = record {
  flow = refl;
  opener = refl;
  jobs = refl;
  is_busy = refl;
  as_many = refl;
  opens = λ o p e f. rooms-same o p (same_Some p o (sym f ∙ e));
  seats = refl;
}
  where
    rooms-same : (o p : Open) → p ≡ o → IsSameButRooms o p
    rooms-same o p e = record {
      frame = ap (λ (q : Open). q.frame) e;
      seats = ap (λ (q : Open). q.seats.seats) e;
      levels = ap (λ (q : Open). q.seats.levels) e;
      turns = ap (λ (q : Open). q.turns) e;
      kept = ap (λ (q : Open). q.levels) e;
    }

pub opens-then : (c d e : code.Instance) → HasSameOpens c d → HasSameOpens d e → HasSameOpens c e
opens-then c d e a b = record {
  flow = b.flow ∙ a.flow;
  opener = b.opener ∙ a.opener;
  jobs = b.jobs ∙ a.jobs;
  is_busy = b.is_busy ∙ a.is_busy;
  as_many = b.as_many ∙ a.as_many;
  opens = λ o p f g.
      let q = get-within d.open.items 0 (subst (λ n. 0 < n) (sym a.as_many) (slice_get_within c.open.items 0 o f)) in
      let x = a.opens o q.0 f q.1 in
      let y = b.opens q.0 p q.1 g in
      record {
        frame = y.frame ∙ x.frame;
        seats = y.seats ∙ x.seats;
        levels = y.levels ∙ x.levels;
        turns = y.turns ∙ x.turns;
        kept = y.kept ∙ x.kept;
      };
  seats = b.seats ∙ a.seats;
}

-- ---- all of them

-- the same but for rooms in open instances
pub record AreOtherRooms (r s : OpenRun) : Type 0 where
  pub around : HasSameAround r s
  pub as_many : length s.instances.items ≡ length r.instances.items
  pub busy : s.busy ≡ r.busy
  pub jobs : s.jobs ≡ r.jobs
  pub due : s.due ≡ r.due
  pub each :
      (i : ℕ) (c e : code.Instance) → slice_get r.instances.items i ≡ Some c → slice_get s.instances.items i ≡ Some e
      → HasSameOpens c e

pub around-then : (r s t : OpenRun) → HasSameAround r s → HasSameAround s t → HasSameAround r t
around-then r s t a b = record {
  alloc = b.alloc ∙ a.alloc;
  run = b.run ∙ a.run;
  looks = b.looks ∙ a.looks;
  pool = b.pool ∙ a.pool;
  entries = b.entries ∙ a.entries;
  failed = b.failed ∙ a.failed;
  outs = b.outs ∙ a.outs;
}

pub rooms-itself : (r : OpenRun) → AreOtherRooms r r
rooms-itself r = record {
  around = record {
    alloc = refl;
    run = refl;
    looks = refl;
    pool = refl;
    entries = refl;
    failed = refl;
    outs = refl;
  };
  as_many = refl;
  busy = refl;
  jobs = refl;
  due = refl;
  each = λ i c e f g. subst (HasSameOpens c) (same_Some c e (sym f ∙ g)) (opens-itself c);
}

-- one instance more
pub rooms-then : (r s t : OpenRun) (i : ℕ) → AreOtherRooms r s → OtherRoomsIn s t i → AreOtherRooms r t
rooms-then r s t i a b = record {
  around = around-then r s t a.around b.around;
  as_many = b.others.as_many ∙ a.as_many;
  busy = b.busy ∙ a.busy;
  jobs = b.jobs ∙ a.jobs;
  due = b.due ∙ a.due;
  each = λ k c e f g.
      let d = get-within s.instances.items k
      (subst (λ n. k < n) (sym a.as_many) (slice_get_within r.instances.items k c f)) in
      same-number k i
      (λ is.
      opens-then c d.0 e (a.each k c d.0 f d.1)
      (b.itself d.0 e (subst (λ n. slice_get s.instances.items n ≡ Some d.0) is d.1)
      (subst (λ n. slice_get t.instances.items n ≡ Some e) is g)))
      (λ ne.
      subst (HasSameOpens c) (same_Some d.0 e (sym d.1 ∙ sym (b.others.others k ne) ∙ g)) (a.each k c d.0 f d.1));
}

-- the room that was taken stays
pub room-stays : (s t : OpenRun) (i k : ℕ) → OtherRoomsIn s t i → k ≢ i → HasRoomsIn s k → HasRoomsIn t k
room-stays s t i k b ne room = record {
  each = λ c o f g. room.each c o (sym (b.others.others k ne) ∙ f) g;
}

pub rooms-more : (s t : OpenRun) (i : ℕ) → OtherRoomsIn s t i → ((k : ℕ) → k < i → HasRoomsIn s k) → HasRoomsIn t i
    → (k : ℕ) → k < i + 1 → HasRoomsIn t k
rooms-more s t i b before here k low =
    same-number k i
    (λ is. subst (HasRoomsIn t) (sym is) here)
    (λ ne. room-stays s t i k b ne (before k (less k i ne low)))
  where
    less : (k i : ℕ) → k ≢ i → k < i + 1 → k < i
    less k i ne low = omega (arith, ne, low)

module _ (r s : OpenRun) (a : AreOtherRooms r s) where
  alike : AreAlike r s
  alike = record {
    run = a.around.run;
    looks = a.around.looks;
    jobs = ap (λ v. v.items) a.jobs;
    due = a.due;
    as_many = a.as_many;
    each = λ i c e f g.
        let h = a.each i c e f g in
        record {
          flow = h.flow;
          opener = h.opener;
          jobs = ap (λ v. v.items) h.jobs;
          seats = seats-same c e h;
        };
  }

  life-rooms : (c e : code.Instance) (x : Instance) (w : Option View) → HasSameOpens c e → IsLife r c x w → IsLife s e x w
  life-rooms c e x None h life = (none-of c.open.items e.open.items life.0 h.as_many, ap is_some h.seats ∙ life.1)
  life-rooms c e x (Some v) h life =
      let p = first-of c.open.items e.open.items life.itself [] life.there h.as_many in
      record {
        itself = p.other;
        there = p.is ∙ ap (λ l. p.other ∷ l) (p.many life.there);
        flow = life.flow;
        is_open = λ plan k.
            is-open life.itself p.other
            (h.opens life.itself p.other (ap (λ l. slice_get l 0) life.there) (ap (λ l. slice_get l 0) p.is)) plan
            (life.is_open plan k);
        still = λ idle. life.still (sym h.is_busy ∙ idle);
      }
    where
      is-open : (o p : Open) → IsSameButRooms o p → (plan : FlowPlan) → IsOpen (run_view r.run) plan r.pool o v
          → IsOpen (run_view s.run) plan s.pool p v
      is-open o p is plan was =
          subst (λ q. IsOpen (run_view q) plan s.pool p v) (sym a.around.run)
          (subst (λ q. IsOpen (run_view r.run) plan q p v) (sym a.around.pool)
          (record {
            keeps = subst (λ f. Keeps (run_view r.run).flows plan r.pool f v) (sym is.frame) was.keeps;
            known =
                ap (map job_of) is.seats ∙ was.known ∙ ap (λ (f : Frame). known_jobs f.intakes) (sym is.frame);
            levels = is.levels ∙ was.levels;
            quiet = quiet-roomy v o p is was.quiet;
            kept = kept-with v o p is.kept was.kept;
          }))

  abbrev frame_of : Option code.Instance → Option Frame
  frame_of o = option_and_then (λ (c : code.Instance). option_map (λ (p : Open). p.frame) (slice_get c.open.items 0)) o

  frames-rooms : (i : ℕ) → frame_at s i ≡ frame_at r i
  frames-rooms i =
      on_either (slice_get_cases s.instances.items i).1
      (λ w.
      let c = alike-there r s alike i w.0 w.2 in
      ap frame_of w.2 ∙ frame-same c.0 w.0 (a.each i c.0 w.0 c.1 w.2) ∙ sym (ap frame_of c.1))
      (λ w.
      ap frame_of w.1
      ∙ sym (ap frame_of (slice_get_past r.instances.items i (subst (λ n. n ≤ i) a.as_many w.0))))

  fits-rooms : (xs : Instances) → Fits r xs → Fits s xs
  fits-rooms xs fits =
      fits-alike r s alike xs fits
      (λ i c e x was is there kept. life-rooms c e x x.view (a.each i c e was is) kept.life)
      (subst (λ p. AreTheirs p (frame_at s)) (sym a.around.pool)
      (theirs-as r.pool (frame_at r) (frame_at s) frames-rooms fits.theirs))
      (λ i e is busy.
      let c = alike-there r s alike i e is in
      subst (λ l. In i l.items) (sym a.busy) (fits.busy i c.0 c.1 (sym (a.each i c.0 e c.1 is).is_busy ∙ busy)))
      (λ i k.
      subst (λ n. i < n) (sym a.as_many) (fits.busy_low i (subst (λ l. In i l.items) a.busy k)))

  pub before-rooms : IsAsBefore r s
  before-rooms = record {
    fits = fits-rooms;
    same = λ i. record {
      document = run_view (a.around.run i);
      names = names-alike r s alike i;
      entries = (a.around.entries i).items;
    };
    regions = λ n. ap (λ p. region_at p n) a.around.pool;
    capacity = let e = ap vec_capacity a.around.entries in omega (arith, e);
    due = a.due;
    failed = a.around.failed;
    outs = a.around.outs;
  }
