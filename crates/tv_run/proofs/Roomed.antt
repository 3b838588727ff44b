-- An open instance takes room for a result, or for settling a list or fault: the run is as it was, and ready for that.
use Rattle.std.specs.Prelude.{◌≡◌, ℕ, List, [], ◌∷◌, Some, slice_get, slice_index_or}
use Rattle.std.proofs.Common.{ap, subst, sym, ◌∙◌}
use Rattle.std.proofs.lemmas.Option.{same_Some}
use Rattle.tv_value.specs.Values.{Name, Value}
use Rattle.tv_flow.specs.Flows.{Document, Flow, Step}
use Rattle.tv_flow.specs.Views.{flow_view}
use Rattle.tv_check.specs.FlowPlanViews.{flow_plan_view}
use Rattle.tv_check.specs.Plans.{flow_plans}
use Rattle.tv_check.specs.RunViews.{run_view}
use Rattle.tv_check.specs.declared.plans.FlowPlan.{FlowPlan}
use Rattle.tv_outputs.specs.Known.{Nodes}
use Rattle.tv_model.specs.instance.Events.{Event}
use Rattle.tv_instances.specs.FramingViews.{View}
use Rattle.tv_seats.specs.Seats.{Seat}
use Rattle.tv_instances.specs.Forest.{Instance, Instances}
use Rattle.tv_instances.specs.Events.{IsReadyToGive, IsReadyToSettleAt}
use Rattle.tv_instances.specs.Standing.{IsOpen}
use Rattle.tv_instances.specs.declared.events.Spot.{Spot}
use Rattle.tv_instances.specs.declared.open.Open.{Open}
use Rattle.tv_run.specs.Changes.{IsOpenHere, IsReadyIn, IsReadyToSettleIn, IsSeatHere}
use Rattle.tv_run.specs.Looks.{IsFlow}
use Rattle.tv_run.specs.Rooms.{HasRoomIn, IsAsBefore, IsSameButRooms}
use Rattle.tv_run.specs.declared.instances.Instance as code
use Rattle.tv_run.specs.declared.run.OpenRun.{OpenRun}
use Rattle.tv_run.proofs.FlowPlans.{plan-flow}
use Rattle.tv_run.proofs.Itself.{IsCalled, called-there, its-code, o, open-by, open-set, read-is, seats-are, took-room, with_open}
use Rattle.tv_run.proofs.Opens.{first-open}
use Rattle.tv_run.proofs.Prepared.{prepared}
use Rattle.tv_run.proofs.Readies.{give-by_plan, settle-by_plan}

module _ (r : OpenRun) (i : ℕ) (xs : Instances) (x : Instance) (v : View) (here : IsOpenHere r xs i x v)
    (c : code.Instance) (read : c ≡ slice_index_or r.instances.items i c) (plan : FlowPlan)
    (planned : slice_get (flow_plans (run_view r.run)) c.flow ≡ Some (flow_plan_view plan)) (g : code.Instance)
    (again : g ≡ slice_index_or r.instances.items i g) (q : Open) (is : q ≡ o r i xs x v here) (m : OpenRun) (p : Open)
    (called : IsCalled r m i g p) where
  of-flow : (b : code.Instance) → slice_get r.instances.items i ≡ Some b → (f : Flow) → IsFlow (run_view r.run) b.flow f
      → flow_view plan.flow ≡ f
  of-flow b at f h =
      let code_is = its-code r i xs x v here in
      let is = read-is r i xs x v here c read ∙ same_Some code_is.itself b (sym code_is.there ∙ at) in
      plan-flow (run_view r.run) b.flow f plan h
      (subst (λ (a : code.Instance). slice_get (flow_plans (run_view r.run)) a.flow ≡ Some (flow_plan_view plan)) is planned)

  pub roomed : m.due ≡ r.due → m.pool.regions ≡ r.pool.regions → p.seats.seats ≡ q.seats.seats
      → p.frame.region ≡ q.frame.region
      → ((d : Document) (w : View) → IsOpen d plan r.pool q w → IsOpen d plan m.pool p w)
      → IsAsBefore r m
  roomed due regions seats region same =
      let took =
      took-room r i xs x v here g again m p called due regions (seats ∙ ap (λ a. a.seats.seats) is)
      (region ∙ ap (λ a. a.frame.region) is) in
      prepared r m i (o r i xs x v here) p took plan
      (λ d w h. same d w (subst (λ a. IsOpen d plan r.pool a w) (sym is) h)) (of-flow took.before took.was)

  -- the Open then
  open-then : (e : code.Instance) (a : Open) → slice_get m.instances.items i ≡ Some e → e.open.items ≡ a ∷ [] → p ≡ a
  open-then e a at opened =
      let then_is = same_Some (with_open g p) e (sym (called-there r i xs x v here g again m p called) ∙ at) in
      first-open p a [] [] e.open.items
      (ap (λ (h : code.Instance). h.open.items) (sym then_is) ∙ open-set r i xs x v here g again p) opened

  pub ready-to_give : (n : OpenRun) → IsSameButRooms m n → (s : Seat) (t : Name × Step) (vs : List Value) (y : Spot)
      → IsReadyToGive (run_view r.run) plan m.pool p v s t vs y → HasRoomIn n i y.more → IsReadyIn n i v s t vs y
  ready-to_give n rooms s t vs y ready room = record {
    ready = λ e a other at opened flow.
        let alike = rooms.instances i (with_open g p) e (called-there r i xs x v here g again m p called) at in
        let is_open : e.open.items ≡ p ∷ [] =
        ap (λ l. l.items) alike.opened ∙ open-set r i xs x v here g again p in
        let same = first-open p a [] [] e.open.items is_open opened in
        subst (λ d. IsReadyToGive (run_view d) other n.pool a v s t vs y) (sym (rooms.run ∙ called.run))
        (subst (λ (l : Nodes). IsReadyToGive (run_view r.run) other l a v s t vs y) (sym rooms.pool)
        (subst (λ b. IsReadyToGive (run_view r.run) other m.pool b v s t vs y) same
        (give-by_plan (run_view r.run) plan other m.pool p v s t vs y flow ready)));
    room = room;
  }

  pub ready-to_settle : (e : Event) (more : ℕ) → IsReadyToSettleAt (run_view r.run) plan m.pool p v e more
      → IsReadyToSettleIn m i v e more
  ready-to_settle e more ready = record {
    ready = λ h a other at opened flow.
        subst (λ d. IsReadyToSettleAt (run_view d) other m.pool a v e more) (sym called.run)
        (subst (λ b. IsReadyToSettleAt (run_view r.run) other m.pool b v e more) (open-then h a at opened)
        (settle-by_plan (run_view r.run) plan other m.pool p v e more flow ready));
  }

-- ---- what its Open wants

module _ (r : OpenRun) (i : ℕ) (xs : Instances) (x : Instance) (v : View) where
  pub still-open : (here : IsOpenHere r xs i x v) (plan : FlowPlan) → flow_view plan.flow ≡ x.flow → (q : Open)
      → q ≡ o r i xs x v here → IsOpen (run_view r.run) plan r.pool q v
  still-open here plan of_flow q same =
      subst (λ a. IsOpen (run_view r.run) plan r.pool a v) (sym same) (open-by r i xs x v here plan of_flow)

  module _ (n : ℕ) (s : Seat) (t : Name × Step) (seat : IsSeatHere r xs i x v n s t) where
    pub seat-read : (q : Open) → q ≡ o r i xs x v seat.here → slice_get q.seats.seats n ≡ Some s
    seat-read q same =
        ap (λ a. slice_get a.seats.seats n) same ∙ ap (λ l. slice_get l n) (seats-are r i xs x v seat.here) ∙ seat.seat

    pub step-read : slice_get v.flow.steps s.step ≡ Some t
    step-read =
        ap (λ (f : Flow). slice_get f.steps s.step) (its-code r i xs x v seat.here).opened.flow ∙ seat.step
