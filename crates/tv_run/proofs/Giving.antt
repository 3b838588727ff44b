-- An open instance is told of a result, or of a list or fault: what the calls want, and what the run is then.
use Rattle.std.specs.Option.{option_map_or}
use Rattle.std.specs.Prelude.{◌≡◌, refl, ℕ, ◌+◌, ◌-◌, ◌≤◌, ◌||◌, true, List, [], ◌∷◌, Some, cond, is_some, length, map, slice_get, slice_index_or, slice_set, vec_capacity}
use Rattle.std.specs.List.{sum_by}
use Rattle.std.proofs.Common.{ap, arith, length-append, subst, sym, ◌∙◌}
use Rattle.std.proofs.lemmas.List.{length-map}
use Rattle.std.proofs.lemmas.Option.{same_Some}
use Rattle.tv_value.specs.Values.{Name, Value}
use Rattle.tv_flow.specs.Flows.{Step}
use Rattle.tv_flow.specs.Views.{flow_view}
use Rattle.tv_check.specs.RunViews.{run_view}
use Rattle.tv_check.specs.declared.plans.FlowPlan.{FlowPlan}
use Rattle.tv_pool.specs.Pool.{number_of}
use Rattle.tv_stream.specs.nodes.Calls.{KeepsRegions}
use Rattle.tv_model.specs.instance.Events.{Event}
use Rattle.tv_model.proofs.Tests.{true≠false}
use Rattle.tv_instances.specs.FramingViews.{View}
use Rattle.tv_seats.specs.Seats.{Seat, staged, with_stage}
use Rattle.tv_seats.specs.Stages.{is_nested, is_out, is_waiting, may_settle}
use Rattle.tv_seats.specs.declared.stage.Stage.{Stage}
use Rattle.tv_seats.specs.declared.stage.Stage.TheVariants as stage
use Rattle.tv_instances.specs.Entries.{with_view}
use Rattle.tv_instances.specs.Forest.{Instance, Instances}
use Rattle.tv_instances.specs.Events.{IsReadyToGive, IsReadyToSettleAt, IsTold, MayBeBounced, MayBeGiven}
use Rattle.tv_instances.specs.Standing.{job_of}
use Rattle.tv_instances.specs.declared.events.Spot.{Spot}
use Rattle.tv_instances.specs.declared.open.Open.{Open}
use Rattle.tv_run.specs.Changes.{IsOpenHere, IsReadyIn, IsReadyToSettleIn, IsSeatHere, MayBeBouncedIn, MayBeGivenIn, TellsIn}
use Rattle.tv_run.specs.Following.{CanFollow, FollowsIn, unnumbered}
use Rattle.tv_run.specs.Rooms.{HasRoomIn}
use Rattle.tv_run.specs.Standing.{due_in, is_due}
use Rattle.tv_run.specs.declared.instances.Instance as code
use Rattle.tv_run.specs.declared.run.OpenRun.{OpenRun}
use Rattle.tv_run.proofs.Fits.{IsTurned, due_seats, tells-in}
use Rattle.tv_run.proofs.Itself.{IsCalled, its-code, o, seats-are, turned}
use Rattle.tv_run.proofs.Moved.{sum-set}

-- ---- how many are due

abbrev due_one : Stage → ℕ
due_one x = cond (is_due x) 1 0

due-settled : (ss : List Seat) (n : ℕ) (s : Seat) → slice_get ss n ≡ Some s
    → due_seats (with_stage n stage.Settled ss) + due_one s.stage ≡ due_seats ss
due-settled ss n s e =
    let set = sum-set (λ (t : Seat). cond (is_due t.stage) 1 0) ss n s (staged stage.Settled s) e in
    let is = ap (λ o. due_seats (option_map_or (λ t. slice_set ss n (staged stage.Settled t)) o ss)) e in
    omega (arith, set, is)

not-due : (x : Stage) → (is_out x || is_nested x) ≡ true → due_one x ≡ 0
not-due stage.Waiting h = absurd (true≠false (sym h))
not-due (stage.Out a t) h = refl
not-due (stage.Idle a t) h = absurd (true≠false (sym h))
not-due (stage.Aside a) h = absurd (true≠false (sym h))
not-due (stage.Nested i) h = refl
not-due stage.Settled h = absurd (true≠false (sym h))

one-due : (x : Stage) → is_waiting x ≡ true → due_one x ≡ 1
one-due stage.Waiting h = refl
one-due (stage.Out a t) h = absurd (true≠false (sym h))
one-due (stage.Idle a t) h = absurd (true≠false (sym h))
one-due (stage.Aside a) h = absurd (true≠false (sym h))
one-due (stage.Nested i) h = absurd (true≠false (sym h))
one-due stage.Settled h = absurd (true≠false (sym h))

module _ (ss : List Seat) (n : ℕ) (s : Seat) (e : slice_get ss n ≡ Some s) where
  -- of one that runs none
  pub given-due : (is_out s.stage || is_nested s.stage) ≡ true → due_seats (with_stage n stage.Settled ss) ≡ due_seats ss
  given-due h =
      let all = due-settled ss n s e in
      let none = not-due s.stage h in
      omega (arith, all, none)

  -- of one that waits one less
  pub bounced-due : is_waiting s.stage ≡ true → due_seats (with_stage n stage.Settled ss) + 1 ≡ due_seats ss
  bounced-due h =
      let all = due-settled ss n s e in
      let one = one-due s.stage h in
      omega (arith, all, one)

  -- so there is one
  pub some-due : (xs : Instances) (i : ℕ) (x : Instance) (v : View) → slice_get xs i ≡ Some x → x.seats ≡ ss
      → (due : ℕ) → due ≡ sum_by due_in xs → is_waiting s.stage ≡ true → 1 ≤ due
  some-due xs i x v at seats due is h =
      let set = sum-set due_in xs i x (with_view x v (with_stage n stage.Settled ss)) at in
      let one = bounced-due h in
      let whole = ap due_seats seats in
      omega (arith, set, one, whole, is)

-- ---- told

module _ (r : OpenRun) (i : ℕ) (xs : Instances) (x : Instance) (v : View) (here : IsOpenHere r xs i x v)
    (c : code.Instance) (read : c ≡ slice_index_or r.instances.items i c) (plan : FlowPlan)
    (of_flow : flow_view plan.flow ≡ x.flow) (q : Open) (same : q ≡ o r i xs x v here) (u : OpenRun) (w : Open)
    (called : IsCalled r u i c w) (e : Event) (more : ℕ) (ss qs : List Seat) (seats : qs ≡ ss)
    (jobs : map job_of ss ≡ map job_of x.seats) (tells : IsTold (run_view r.run) plan u.pool w v e more qs)
    (regions : KeepsRegions r.pool u.pool (number_of q.frame.region)) (region : w.frame.region ≡ q.frame.region)
    (room : HasRoomIn r i more) (less : u.due ≤ r.due) where
  its-turned : IsTurned r u i (o r i xs x v here) w
  its-turned = turned r i xs x v here c read u w called

  its-tells : IsTold (run_view r.run) plan u.pool w v e more ss
  its-tells = subst (IsTold (run_view r.run) plan u.pool w v e more) seats tells

  numbered-long : length its-turned.after.jobs.items ≡ length x.seats
  numbered-long =
      ap (λ l. length l.items) its-turned.numbers
      ∙ (here.fits.kept i its-turned.before x its-turned.was here.there).as_many (ap is_some here.is_open)

  seats-long : length w.seats.seats ≡ length x.seats + more
  seats-long =
      let all : length w.seats.seats ≡ length ss + length its-tells.new =
      ap length its-tells.seats ∙ length-append ss its-tells.new in
      let old : length ss ≡ length x.seats = sym (length-map ss job_of) ∙ ap length jobs ∙ length-map x.seats job_of in
      let many = its-tells.many in
      omega (arith, all, old, many)

  unnumbered-is : unnumbered its-turned.after ≡ more
  unnumbered-is =
      let all : unnumbered its-turned.after ≡ length w.seats.seats - length its-turned.after.jobs.items =
      ap (by (length its-turned.after.jobs.items)) its-turned.is_open in
      let old = numbered-long in
      let now = seats-long in
      omega (arith, all, old, now)
    where
      by : ℕ → List Open → ℕ
      by n [] = 0
      by n (p ∷ ps) = length p.seats.seats - n

  pub can-follow : CanFollow u i
  can-follow = record {
    itself = its-turned.after;
    there = its-turned.there;
    opened = w;
    is_open = its-turned.is_open;
    numbered =
        let old = numbered-long in
        let now = seats-long in
        omega (arith, old, now);
    room = subst (HasRoomIn u i) (sym unnumbered-is) (record {
      numbers = λ g at.
          let is : g ≡ its-turned.after = same_Some g its-turned.after (sym at ∙ its-turned.there) in
          let jobs_are = ap (λ (h : code.Instance). h.jobs) is ∙ its-turned.numbers in
          subst (λ l. length l.items + more ≤ vec_capacity l) (sym jobs_are)
          (room.numbers its-turned.before its-turned.was);
      beside = record {
        jobs = subst (λ l. length l.items + more ≤ vec_capacity l) (sym called.jobs) room.beside.jobs;
        busy = subst (λ l. length l.items + 1 ≤ vec_capacity l) (sym called.busy) room.beside.busy;
        entries =
            subst (λ l. length l.items + u.due + more + 1 ≤ vec_capacity l) (sym called.entries)
            (let was = room.beside.entries in omega (arith, was, less));
      };
    });
  }

  pub tells-then : (z : OpenRun) → FollowsIn u z i → u.due + due_seats x.seats ≡ r.due + due_seats ss
      → TellsIn r z xs i x v e more ss
  tells-then z follows due =
      tells-in r u z xs i x v (o r i xs x v here) w its-turned here follows plan of_flow e more ss its-tells jobs
      (subst (λ p. KeepsRegions r.pool u.pool (number_of p.frame.region)) same regions)
      (region ∙ ap (λ p. p.frame.region) same) due less

-- ---- results

module _ (r : OpenRun) (i n : ℕ) (xs : Instances) (x : Instance) (v : View) (s : Seat) (t : Name × Step) (vs : List Value)
    (p : Spot) where
  ready-here : (here : IsOpenHere r xs i x v) → IsReadyIn r i v s t vs p → (plan : FlowPlan) → flow_view plan.flow ≡ x.flow
      → IsReadyToGive (run_view r.run) plan r.pool (o r i xs x v here) v s t vs p
  ready-here here ready plan of_flow =
      let c = its-code r i xs x v here in
      ready.ready c.itself (o r i xs x v here) plan c.there c.opened.there (of_flow ∙ sym c.opened.flow)

  seat-there : (seat : IsSeatHere r xs i x v n s t) → slice_get (o r i xs x v seat.here).seats.seats n ≡ Some s
  seat-there seat = ap (λ l. slice_get l n) (seats-are r i xs x v seat.here) ∙ seat.seat

  runs-may : (y : Stage) → (is_out y || is_nested y) ≡ true → may_settle y ≡ true
  runs-may stage.Waiting h = absurd (true≠false (sym h))
  runs-may (stage.Out a b) h = refl
  runs-may (stage.Idle a b) h = absurd (true≠false (sym h))
  runs-may (stage.Aside a) h = absurd (true≠false (sym h))
  runs-may (stage.Nested k) h = refl
  runs-may stage.Settled h = absurd (true≠false (sym h))

  -- what the instance's Open wants
  pub to-give : (may : MayBeGivenIn r xs i x v n s t vs p) (plan : FlowPlan) → flow_view plan.flow ≡ x.flow
      → (q : Open) → q ≡ o r i xs x v may.seat.here → MayBeGiven (run_view r.run) plan r.pool q v n s t vs p
  to-give may plan of_flow q same =
      subst (λ a. MayBeGiven (run_view r.run) plan r.pool a v n s t vs p) (sym same)
      (record {
        ready = ready-here may.seat.here may.ready plan of_flow;
        there = seat-there may.seat;
        may = runs-may s.stage may.runs;
        taken = may.taken;
      })

  pub to-bounce : (may : MayBeBouncedIn r xs i x v n s t vs p) (plan : FlowPlan) → flow_view plan.flow ≡ x.flow
      → (q : Open) → q ≡ o r i xs x v may.seat.here → MayBeBounced (run_view r.run) plan r.pool q v n s t vs p
  to-bounce may plan of_flow q same =
      subst (λ a. MayBeBounced (run_view r.run) plan r.pool a v n s t vs p) (sym same)
      (record {
        ready = ready-here may.seat.here may.ready plan of_flow;
        there = seat-there may.seat;
        waits = may.waits;
        free = may.free;
      })

  -- the seats then
  pub settled-seats : (here : IsOpenHere r xs i x v) (q : Open) → q ≡ o r i xs x v here
      → with_stage n stage.Settled q.seats.seats ≡ with_stage n stage.Settled x.seats
  settled-seats here q same =
      ap (λ a. with_stage n stage.Settled a.seats.seats) same ∙ ap (with_stage n stage.Settled) (seats-are r i xs x v here)

-- ---- lists and faults

pub to-settle : (r : OpenRun) (i : ℕ) (xs : Instances) (x : Instance) (v : View) (here : IsOpenHere r xs i x v) (e : Event)
    (more : ℕ) → IsReadyToSettleIn r i v e more → (plan : FlowPlan) → flow_view plan.flow ≡ x.flow → (q : Open)
    → q ≡ o r i xs x v here → IsReadyToSettleAt (run_view r.run) plan r.pool q v e more
to-settle r i xs x v here e more ready plan of_flow q same =
    let c = its-code r i xs x v here in
    subst (λ a. IsReadyToSettleAt (run_view r.run) plan r.pool a v e more) (sym same)
    (ready.ready c.itself (o r i xs x v here) plan c.there c.opened.there (of_flow ∙ sym c.opened.flow))
