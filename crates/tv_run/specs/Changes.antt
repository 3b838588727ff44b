-- What the calls of an open instance make of a run: that instance is another, and all others are as they were.
use Rattle.std.specs.Prelude.{List, None, Option, Some, [], false, length, map, slice_get, true, ℕ, ◌++◌, ◌||◌, ◌+◌, ◌<◌, ◌≤◌, ◌∷◌, ◌≡◌}
use Rattle.tv_value.specs.Values.{JobName, Name, Value}
use Rattle.tv_flow.specs.Flows.{Document, Flow, Step}
use Rattle.tv_flow.specs.Views.{flow_view}
use Rattle.tv_check.specs.RunViews.{run_view}
use Rattle.tv_check.specs.declared.plans.FlowPlan.{FlowPlan}
use Rattle.tv_model.specs.instance.Events.{Event, is_taken, took}
use Rattle.tv_instances.specs.Answers.{IsReadyJob}
use Rattle.tv_instances.specs.FramingViews.{View}
use Rattle.tv_frame.specs.Calls.{CanStart}
use Rattle.tv_frame.specs.Tables.{levels_in}
use Rattle.tv_frame_laws.specs.Beside.{SameRegion}
use Rattle.tv_seats.specs.Seats.{Seat, room_at, step_at, with_stage}
use Rattle.tv_seats.specs.Stages.{is_nested, is_out, is_waiting}
use Rattle.tv_seats.specs.declared.stage.Stage.{Stage}
use Rattle.tv_instances.specs.seats.GoingOn.{GoesOn, IsNew}
use Rattle.tv_instances.specs.seats.Seated.{spot_of}
use Rattle.tv_instances.specs.Entries.{with_view, with_instance}
use Rattle.tv_instances.specs.Forest.{Instance, Instances, IsAt}
use Rattle.tv_instances.specs.Events.{IsReadyToGive, IsReadyToSettleAt}
use Rattle.tv_instances.specs.declared.events.Spot.{Spot}
use Rattle.tv_instances.specs.declared.open.Open.{Open}
use Rattle.tv_run.specs.Following.{OthersAreSame}
use Rattle.tv_run.specs.Looks.{IsFlow}
use Rattle.tv_run.specs.Rooms.{HasRoomIn}
use Rattle.tv_run.specs.Standing.{Fits, names_of}
use Rattle.tv_run.specs.declared.instances.Instance as code
use Rattle.tv_run.specs.declared.run.OpenRun.{OpenRun}

-- ---- one instance

-- what isn't of its instances, jobs and pool is the same
pub record HasSameRest (r s : OpenRun) : Type 0 where
  pub run : s.run ≡ r.run
  pub entries : s.entries ≡ r.entries
  pub failed : s.failed ≡ r.failed
  pub outs : s.outs ≡ r.outs

-- s fits these, and has more names perhaps
pub record ChangesTo (r s : OpenRun) (ys : Instances) : Type 0 where
  pub fits : Fits s ys
  pub more : List JobName
  pub names : names_of s ≡ names_of r ++ more
  pub rest : HasSameRest r s

-- the open instance of that number is x, told v
pub record IsOpenHere (r : OpenRun) (xs : Instances) (i : ℕ) (x : Instance)
    (v : View) : Type 0 where
  pub fits : Fits r xs
  pub there : IsAt xs i x
  pub is_open : x.view ≡ Some v

-- seat n of it is s, of step t
pub record IsSeatHere (r : OpenRun) (xs : Instances) (i : ℕ) (x : Instance) (v : View) (n : ℕ)
    (s : Seat)
    (t : Name × Step) : Type 0 where
  pub here : IsOpenHere r xs i x v
  pub seat : slice_get x.seats n ≡ Some s
  pub step : slice_get x.flow.steps s.step ≡ Some t

-- ---- jobs that begin

-- the job of seat n is at this stage from now on: of one that waited the instance was told that it is taken, of others nothing
pub record TakesIn (r s : OpenRun) (xs : Instances) (i : ℕ) (x : Instance) (v : View) (n : ℕ)
    (y : Stage) : Type 0
  where
    pub view : View
    pub waited :
        (s : Seat) → slice_get x.seats n ≡ Some s → is_waiting s.stage ≡ true
        → GoesOn (run_view r.run)
        (levels_in x.flow) v view (took (spot_of x.flow.steps s).0 s.place) []
    pub went_on : (s : Seat) → slice_get x.seats n ≡ Some s → is_waiting s.stage ≡ false → view ≡ v
    pub changes : ChangesTo r s (with_instance xs i (with_view x view (with_stage n y x.seats)))
    pub names : names_of s ≡ names_of r

-- ---- events

-- the instance was told e, and the jobs of these seats, as many as that, became known, behind those of the seats ss
pub record TellsIn (r s : OpenRun) (xs : Instances) (i : ℕ) (x : Instance) (v : View) (e : Event)
    (more : ℕ)
    (ss : List Seat) : Type 0 where
  pub view : View
  pub new : List Seat
  pub goes_on : GoesOn (run_view r.run) (levels_in x.flow) v view e new
  pub many : length new ≡ more
  pub changes : ChangesTo r s (with_instance xs i (with_view x view (ss ++ new)))
  -- one that was due may be settled
  pub due : s.due ≤ r.due + more

-- all room is taken for these as the result of the job of seat s, of step t, of instance i
pub record IsReadyIn (r : OpenRun) (i : ℕ) (v : View) (s : Seat) (t : Name × Step) (vs : List Value)
    (p : Spot) : Type 0
  where
    pub ready :
        (c : code.Instance) (o : Open) (plan : FlowPlan) → slice_get r.instances.items i ≡ Some c
        → c.open.items ≡ o ∷ [] → flow_view plan.flow ≡ v.flow
        → IsReadyToGive (run_view r.run) plan r.pool o v s t vs p
    pub room : HasRoomIn r i p.more

-- and the job of seat n, which is s, runs: with its try out, or its flow open
pub record MayBeGivenIn (r : OpenRun) (xs : Instances) (i : ℕ) (x : Instance) (v : View) (n : ℕ)
    (s : Seat)
    (t : Name × Step) (vs : List Value) (p : Spot) : Type 0 where
  pub seat : IsSeatHere r xs i x v n s t
  pub ready : IsReadyIn r i v s t vs p
  pub runs : (is_out s.stage || is_nested s.stage) ≡ true
  pub taken : is_taken v.events t.0 s.place ≡ true

-- or it waits, and is ready
pub record MayBeBouncedIn (r : OpenRun) (xs : Instances) (i : ℕ) (x : Instance) (v : View) (n : ℕ)
    (s : Seat)
    (t : Name × Step) (vs : List Value) (p : Spot) : Type 0 where
  pub seat : IsSeatHere r xs i x v n s t
  pub ready : IsReadyIn r i v s t vs p
  pub waits : is_waiting s.stage ≡ true
  pub free : IsReadyJob (levels_in v.flow) v (t.0, s.place)

-- the same to settle a list or fault by this event
pub record IsReadyToSettleIn (r : OpenRun) (i : ℕ) (v : View) (e : Event) (more : ℕ) : Type 0 where
  pub ready :
      (c : code.Instance) (o : Open) (plan : FlowPlan) → slice_get r.instances.items i ≡ Some c
      → c.open.items ≡ o ∷ [] → flow_view plan.flow ≡ v.flow
      → IsReadyToSettleAt (run_view r.run) plan r.pool o v e more

-- ---- instances

-- each instance but that of this number is as it was, with its region, and what there is room for is the same
pub record LeavesOthers (r s : OpenRun) (i : ℕ) : Type 0 where
  pub others : OthersAreSame r s i
  pub busy : s.busy ≡ r.busy
  pub jobs : s.jobs ≡ r.jobs
  pub regions :
      (k : ℕ) (c : code.Instance) (o : Open) → (k ≡ i → ⊥) → slice_get r.instances.items k ≡ Some c
      → c.open.items ≡ o ∷ [] → SameRegion r.pool s.pool o.frame
  pub spare : r.pool.spare ≤ s.pool.spare

-- it is of this flow, on these inputs, told nothing, and all its jobs wait
pub record IsOpenedOn (d : Document) (f : Flow) (values : List Value) (name : JobName)
    (y : Instance) : Type 0 where
  pub view : View
  pub is_open : y.view ≡ Some view
  pub called : y.name ≡ name
  pub flow : y.flow ≡ f
  pub of_flow : view.flow ≡ f
  pub inputs : map (λ x. x.1) view.inputs ≡ values
  pub names : map (λ x. x.0) view.inputs ≡ map (λ x. x.0) f.inputs
  pub new : IsNew d (levels_in f) view y.seats

-- the name of the instance that a job opens; of the main one no name
abbrev pub IsNameOf : OpenRun → Option ℕ → JobName → Type 0
IsNameOf r None n = n ≡ []
IsNameOf r (Some k) n = slice_get (names_of r) k ≡ Some n

-- an instance of the flow can be added: it is opened by a known job of whom there is none yet, or the main one
pub record CanAdd (r : OpenRun) (xs : Instances) (flow : ℕ) (f : Flow) (opener : Option ℕ)
    (name : JobName)
    (values : List Value) : Type 0 where
  pub fits : Fits r xs
  pub is_flow : IsFlow (run_view r.run) flow f
  pub named : IsNameOf r opener name
  pub main : opener ≡ None → xs ≡ []
  pub start : (plan : FlowPlan) → flow_view plan.flow ≡ f
      → CanStart (run_view r.run).flows plan values

-- s fits these, with more names perhaps, and what was done is the same
pub record AddsTo (r s : OpenRun) (ys : Instances) : Type 0 where
  pub fits : Fits s ys
  pub more : List JobName
  pub names : names_of s ≡ names_of r ++ more
  pub run : s.run ≡ r.run
  pub entries : s.entries.items ≡ r.entries.items
  pub failed : s.failed ≡ r.failed
  pub outs : s.outs ≡ r.outs
  -- all others are open as they were
  pub opened :
      (i : ℕ) (c e : code.Instance) → slice_get r.instances.items i ≡ Some c
      → slice_get s.instances.items i ≡ Some e
      → e.open ≡ c.open

-- there is room for one more open flow of the step of seat n
pub record HasNestRoom (r : OpenRun) (i n : ℕ) : Type 0 where
  pub each :
      (c : code.Instance) (o : Open) → slice_get r.instances.items i ≡ Some c
      → c.open.items ≡ o ∷ []
      → 0 < room_at o.seats.nested_rooms (step_at o.seats.seats n)
