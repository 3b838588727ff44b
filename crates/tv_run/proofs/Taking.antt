-- A job of an open instance is taken: its try goes out, or its flow is opened.
use Rattle.std.specs.Option.{option_map_or}
use Rattle.std.specs.Prelude.{◌≡◌, refl, ℕ, ◌+◌, ◌<◌, ◌≤◌, ◌||◌, Bool, true, false, List, [], ◌∷◌, None, Option, Some, is_some, length, map, option_and_then, option_map, slice_get, slice_index_or, slice_set}
use Rattle.std.proofs.Common.{ap, append-nil, arith, inl, inr, subst, sym, ◌∙◌}
use Rattle.std.proofs.lemmas.List.{length-set}
use Rattle.std.proofs.lemmas.Option.{get_or_from_slice_get, none-some, same_Some, slice_get_within}
use Rattle.tv_lemmas.proofs.Cases.{on_test}
use Rattle.tv_value.specs.Values.{Name}
use Rattle.tv_flow.specs.Flows.{Flow}
use Rattle.tv_flow.specs.Views.{flow_view}
use Rattle.tv_check.specs.FlowPlanViews.{flow_plan_view}
use Rattle.tv_check.specs.Plans.{flow_plans}
use Rattle.tv_check.specs.RunViews.{run_view}
use Rattle.tv_check.specs.declared.plans.FlowPlan.{FlowPlan}
use Rattle.tv_model.specs.instance.Events.{took}
use Rattle.tv_model.proofs.Tests.{or_left, or_right, true≠false}
use Rattle.tv_instances.specs.FramingViews.{View}
use Rattle.tv_frame.specs.Tables.{levels_in}
use Rattle.tv_frame.specs.declared.frame.Frame.{Frame}
use Rattle.tv_frame_laws.specs.Theirs.{AreTheirs}
use Rattle.tv_frame_laws.proofs.Theirs.{theirs-called}
use Rattle.tv_seats.specs.Firsts.{MayGoOut, MayNest}
use Rattle.tv_seats.specs.Seats.{Seat, staged, stands, with_stage}
use Rattle.tv_seats.specs.Stages.{is_aside, is_idle, is_waiting}
use Rattle.tv_seats.specs.declared.stage.Stage.{Stage}
use Rattle.tv_seats.proofs.Staging.{as-set, one, set-other, staged-count}
use Rattle.tv_instances.specs.seats.GoingOn.{GoesOn}
use Rattle.tv_instances.specs.seats.Seated.{spot_of}
use Rattle.tv_instances.proofs.forest_seats.Lists.{same-images}
use Rattle.tv_instances.specs.Entries.{with_view}
use Rattle.tv_instances.specs.Forest.{Instance, Instances}
use Rattle.tv_instances.proofs.Lists.{at-set, one-at}
use Rattle.tv_instances.specs.forest_firsts.Opening.{IsStill}
use Rattle.tv_instances.specs.Events.{IsTaken}
use Rattle.tv_instances.specs.Standing.{IsOpen, job_of}
use Rattle.tv_instances.specs.declared.open.Open.{Open}
use Rattle.tv_run.specs.Changes.{IsOpenHere, TakesIn}
use Rattle.tv_run.specs.Standing.{IsKept, IsLife, IsOpenOf, due_in, frame_at, is_due, names_of, seats_of}
use Rattle.tv_run.specs.declared.instances.Instance as code
use Rattle.tv_run.specs.declared.run.OpenRun.{OpenRun}
use Rattle.tv_run.proofs.FlowPlans.{plan-flow}
use Rattle.tv_run.proofs.JobLemmas.{instance-there, open-is, seats-open}
use Rattle.tv_run.proofs.Moved.{IsMoved, IsMovedTo, fits-moved, names-moved, sum-set}
use Rattle.tv_run.proofs.Opens.{frame-is, open-any}
use Rattle.tv_run.proofs.Still.{still-staged, still-taken}

abbrev frame_in : Option code.Instance → Option Frame
frame_in g = option_and_then (λ (c : code.Instance). option_map (λ (p : Open). p.frame) (slice_get c.open.items 0)) g

-- ---- a seat whose job may be taken

pub record HasDueSeat (ss : List Seat) (n : ℕ) : Type 0 where
  pub seat : Seat
  pub there : slice_get ss n ≡ Some seat
  pub due : is_due seat.stage ≡ true

module _ (ss : List Seat) (n : ℕ) where
  waits-there : stands is_waiting ss n ≡ true → HasDueSeat ss n
  waits-there h = by (slice_get ss n) refl
    where
      by : (o : Option Seat) → slice_get ss n ≡ o → HasDueSeat ss n
      by None e = absurd (true≠false (sym h ∙ ap (λ o. option_map_or (λ (s : Seat). is_waiting s.stage) o false) e))
      by (Some s) e = record {
        seat = s;
        there = e;
        due =
            or_left (is_waiting s.stage || is_idle s.stage) (is_aside s.stage)
            (or_left (is_waiting s.stage) (is_idle s.stage)
            (sym (ap (λ o. option_map_or (λ (s : Seat). is_waiting s.stage) o false) e) ∙ h));
      }

  pub out-due : MayGoOut ss n → HasDueSeat ss n
  out-due (inl w) = waits-there w
  out-due (inr f) = record {
    seat = f.1.seat;
    there = f.1.is.there;
    due =
        or_left (is_waiting f.1.seat.stage || is_idle f.1.seat.stage) (is_aside f.1.seat.stage)
        (or_right (is_waiting f.1.seat.stage) (is_idle f.1.seat.stage) f.1.is.idle);
  }

  pub nest-due : MayNest ss n → HasDueSeat ss n
  nest-due (inl w) = waits-there w
  nest-due (inr f) = record {
    seat = f.1.seat;
    there = f.1.is.there;
    due =
        or_right (is_waiting f.1.seat.stage || is_idle f.1.seat.stage) (is_aside f.1.seat.stage) f.1.is.aside;
  }

-- ---- an open instance in the code

module _ (r : OpenRun) (i : ℕ) (xs : Instances) (x : Instance) (v : View) (here : IsOpenHere r xs i x v) where
  pub record IsItself : Type 0 where
    pub itself : code.Instance
    pub there : slice_get r.instances.items i ≡ Some itself
    pub kept : IsKept r i itself x
    pub opened : IsOpenOf r itself x v

  pub its-code : IsItself
  its-code =
      let c = instance-there r xs here.fits i x here.there in
      record { itself = c.0; there = c.1; kept = c.2; opened = open-is r i c.0 x v c.2 here.is_open }

  abbrev its : code.Instance
  its = its-code.itself

  abbrev o : Open
  o = its-code.opened.itself

  pub number-low : i < length r.instances.items
  number-low = slice_get_within r.instances.items i its its-code.there

  -- what the code reads there
  module _ (c : code.Instance) (read : c ≡ slice_index_or r.instances.items i c) where
    pub read-is : c ≡ its
    read-is = read ∙ get_or_from_slice_get r.instances.items i its c its-code.there

    pub flow-low : c.flow < length (run_view r.run).flows
    flow-low = by (slice_get (run_view r.run).flows c.flow) refl
      where
        by : (f : Option (Name × Flow)) → slice_get (run_view r.run).flows c.flow ≡ f
            → c.flow < length (run_view r.run).flows
        by None e =
            absurd (none-some x.flow
            (sym (ap (option_map (λ (g : Name × Flow). g.1)) e)
            ∙ ap (λ (g : code.Instance). option_map (λ (f : Name × Flow). f.1) (slice_get (run_view r.run).flows g.flow)) read-is
            ∙ its-code.kept.flow))
        by (Some f) e = slice_get_within (run_view r.run).flows c.flow f e

    pub plan-is : (p : FlowPlan) → slice_get (flow_plans (run_view r.run)) c.flow ≡ Some (flow_plan_view p)
        → flow_view p.flow ≡ x.flow
    plan-is p e =
        plan-flow (run_view r.run) c.flow x.flow p
        (ap (λ (g : code.Instance). option_map (λ (f : Name × Flow). f.1) (slice_get (run_view r.run).flows g.flow)) read-is
        ∙ its-code.kept.flow)
        e

    open-there : c.open.items ≡ o ∷ []
    open-there = ap (λ (g : code.Instance). g.open.items) read-is ∙ its-code.opened.there

    pub open-low : 0 < length c.open.items
    open-low = let n = ap length open-there in omega (arith, n)

    pub open-read : (p : Open) → p ≡ slice_index_or c.open.items 0 p → p ≡ o
    open-read p e = e ∙ ap (λ l. slice_index_or l 0 p) open-there

    -- with another Open there
    pub open-set : (p : Open) → slice_set c.open.items 0 p ≡ p ∷ []
    open-set p = ap (λ l. slice_set l 0 p) open-there

  pub seats-are : o.seats.seats ≡ x.seats
  seats-are = sym (seats-open its o [] its-code.opened.there) ∙ its-code.kept.seats

  -- ---- the run then

  -- s is r with this Open in the place of the instance's, and one job fewer is due
  pub record IsTakenAt (s : OpenRun) (p : Open) : Type 0 where
    pub run : s.run ≡ r.run
    pub looks : s.looks ≡ r.looks
    pub pool : s.pool ≡ r.pool
    pub jobs : s.jobs.items ≡ r.jobs.items
    pub busy : s.busy.items ≡ r.busy.items
    pub entries : s.entries ≡ r.entries
    pub failed : s.failed ≡ r.failed
    pub outs : s.outs ≡ r.outs
    pub then_is : code.Instance
    pub instances : s.instances.items ≡ slice_set r.instances.items i then_is
    pub flow : then_is.flow ≡ its.flow
    pub opener : then_is.opener ≡ its.opener
    pub numbers : then_is.jobs.items ≡ its.jobs.items
    pub is_busy : then_is.is_busy ≡ its.is_busy
    pub opened : then_is.open.items ≡ p ∷ []
    pub due : s.due + 1 ≡ r.due

  module _ (n : ℕ) (y : Stage) (h : HasDueSeat x.seats n) (rests : is_due y ≡ false) where
    abbrev moved : List Seat
    moved = with_stage n y x.seats

    not-waits : is_waiting y ≡ false
    not-waits = by (is_waiting y) (is_idle y) (is_aside y) rests
      where
        by : (a b c : Bool) → (a || b || c) ≡ false → a ≡ false
        by true b c e = e
        by false b c e = refl

    fewer : (w : View) → due_in (with_view x w moved) + 1 ≡ due_in x
    fewer w =
        let c : due_in (with_view x w moved) + one (is_due h.seat.stage) ≡ due_in x + one (is_due y) =
        staged-count x.seats n h.seat y h.there (λ s. is_due s.stage) in
        let was : one (is_due h.seat.stage) ≡ 1 = ap one h.due in
        let is : one (is_due y) ≡ 0 = ap one rests in
        omega (arith, c, was, is)

    pub some-due : 1 ≤ r.due
    some-due =
        let sum = sum-set due_in xs i x (with_view x v moved) here.there in
        let less = fewer v in
        let due = here.fits.due_is in
        omega (arith, sum, less, due)

    same-moved : map job_of moved ≡ map job_of x.seats
    same-moved =
        ap (map job_of) (as-set x.seats n h.seat y h.there)
        ∙ same-images job_of x.seats n h.seat (staged y h.seat) h.there refl

    module _ (plan : FlowPlan) (of_flow : flow_view plan.flow ≡ x.flow) (s : OpenRun) (p : Open)
        (taken : IsTaken (run_view r.run) plan r.pool o p v n y) (region : p.frame.region ≡ o.frame.region)
        (at : IsTakenAt s p) where
      abbrev w : View
      w = taken.view

      abbrev e : code.Instance
      e = at.then_is

      e-there : slice_get s.instances.items i ≡ Some e
      e-there = ap (λ l. slice_get l i) at.instances ∙ at-set r.instances.items i its e its-code.there

      e-is : (g : code.Instance) → slice_get s.instances.items i ≡ Some g → g ≡ e
      e-is g is = same_Some g e (sym is ∙ e-there)

      p-seats : p.seats.seats ≡ moved
      p-seats = taken.seats ∙ ap (with_stage n y) seats-are

      e-seats : seats_of e ≡ moved
      e-seats = seats-open e p [] at.opened ∙ p-seats

      moves : IsMoved r s i
      moves = record {
        run = at.run;
        looks = at.looks;
        pool = at.pool;
        jobs = at.jobs;
        busy = at.busy;
        others = record {
          as_many = ap length at.instances ∙ length-set r.instances.items i e;
          others = λ k ne. ap (λ l. slice_get l k) at.instances ∙ set-other r.instances.items i k e ne;
        };
        itself = λ c g was is.
            let old : c ≡ its = one-at r.instances.items i c its was its-code.there in
            let new = e-is g is in
            record {
              flow = ap (λ (z : code.Instance). z.flow) new ∙ at.flow ∙ sym (ap (λ (z : code.Instance). z.flow) old);
              opener = ap (λ (z : code.Instance). z.opener) new ∙ at.opener ∙ sym (ap (λ (z : code.Instance). z.opener) old);
              numbers =
                  ap (λ (z : code.Instance). z.jobs.items) new ∙ at.numbers
                  ∙ sym (ap (λ (z : code.Instance). z.jobs.items) old);
              is_busy =
                  ap (λ (z : code.Instance). z.is_busy) new ∙ at.is_busy ∙ sym (ap (λ (z : code.Instance). z.is_busy) old);
              jobs =
                  ap (λ z. map job_of (seats_of z)) new ∙ ap (map job_of) e-seats ∙ same-moved
                  ∙ sym (ap (map job_of) (ap seats_of old ∙ its-code.kept.seats));
            };
      }

      flow-then : w.flow ≡ x.flow
      flow-then = taken.is_open.keeps.flow_is ∙ of_flow

      waited : (t : Seat) → slice_get x.seats n ≡ Some t → is_waiting t.stage ≡ true
          → GoesOn (run_view r.run) (levels_in x.flow) v w (took (spot_of x.flow.steps t).0 t.place) []
      waited t is waits =
          subst (λ (f : Flow). GoesOn (run_view r.run) (levels_in f) v w (took (spot_of f.steps t).0 t.place) [])
          its-code.opened.flow
          (taken.waited t (ap (λ l. slice_get l n) seats-are ∙ is) waits)

      went-on : (t : Seat) → slice_get x.seats n ≡ Some t → is_waiting t.stage ≡ false → w ≡ v
      went-on t is waits = taken.went_on t (ap (λ l. slice_get l n) seats-are ∙ is) waits

      still : IsStill levels_in x v → IsStill levels_in (with_view x w moved) w
      still was =
          on_test (is_waiting h.seat.stage)
          (λ waits.
          still-taken levels_in x v n h.seat y h.there not-waits was w (spot_of x.flow.steps h.seat).0 h.seat.place
          (waited h.seat h.there waits).follows)
          (λ waits.
          subst (λ z. IsStill levels_in (with_view x z moved) z) (sym (went-on h.seat h.there waits))
          (still-staged levels_in x v n h.seat y h.there not-waits was))

      open-then : (other : FlowPlan) → flow_view other.flow ≡ x.flow → IsOpen (run_view s.run) other s.pool p w
      open-then other f =
          subst (λ q. IsOpen (run_view q) other s.pool p w) (sym at.run)
          (subst (λ q. IsOpen (run_view r.run) other q p w) (sym at.pool)
          (open-any (run_view r.run) plan other r.pool p w (f ∙ sym flow-then) taken.is_open))

      life : (g : code.Instance) → slice_get s.instances.items i ≡ Some g → IsLife s g (with_view x w moved) (Some w)
      life g is =
          let new = e-is g is in
          record {
            itself = p;
            there = ap (λ (z : code.Instance). z.open.items) new ∙ at.opened;
            flow = flow-then;
            is_open = open-then;
            still = λ rested.
                still (its-code.opened.still (sym at.is_busy ∙ sym (ap (λ (z : code.Instance). z.is_busy) new) ∙ rested));
          }

      theirs : AreTheirs s.pool (frame_at s)
      theirs =
          subst (λ q. AreTheirs q (frame_at s)) (sym at.pool)
          (theirs-called r.pool r.pool (frame_at r) (frame_at s) i o.frame p.frame here.fits.theirs
          (frame-is r i its o [] its-code.there its-code.opened.there)
          (frame-is s i e p [] e-there at.opened)
          region
          (λ k ne. λ j. frame_in (moves.others.others k ne j))
          (record { live = λ q live. live; others = λ q ne. refl }))

      to : IsMovedTo r s i x (with_view x w moved)
      to = record {
        name = refl;
        flow = refl;
        jobs = same-moved;
        seats = λ g is. ap seats_of (e-is g is) ∙ e-seats;
        life = life;
        theirs = theirs;
        due = let less = fewer w in let due = at.due in omega (arith, less, due);
        was_open = ap is_some here.is_open;
      }

      names-same : names_of s ≡ names_of r
      names-same = names-moved r s i moves

      pub takes-in : TakesIn r s xs i x v n y
      takes-in = record {
        view = w;
        waited = waited;
        went_on = went-on;
        names = names-same;
        changes = record {
          fits = fits-moved r s i moves xs x (with_view x w moved) here.fits here.there to;
          more = [];
          names = names-same ∙ sym (append-nil (names_of r));
          rest = record { run = at.run; entries = at.entries; failed = at.failed; outs = at.outs };
        };
      }
