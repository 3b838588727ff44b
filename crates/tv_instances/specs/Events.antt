-- What the calls of an open instance need, and what they make of it.
use Rattle.std.specs.Prelude.{List, Some, [], false, length, slice_get, true, ℕ, ◌++◌, ◌≡◌}
use Rattle.tv_value.specs.Values.{Name, Value}
use Rattle.tv_flow.specs.Flows.{Document, Step}
use Rattle.tv_check.specs.declared.plans.FlowPlan.{FlowPlan}
use Rattle.tv_outputs.specs.Known.{Nodes}
use Rattle.tv_model.specs.instance.Events.{Event, event_step, gave, is_taken, took}
use Rattle.tv_frame.specs.Answers.{CanSettle, IsReadyJob}
use Rattle.tv_frame.specs.FramingViews.{View}
use Rattle.tv_frame.specs.Calls.{Brings, IsReadyToSettle, Tells}
use Rattle.tv_frame.specs.LastLevels.{IsLevelOf}
use Rattle.tv_frame.specs.Prepared.{IsReadyFor}
use Rattle.tv_frame.specs.Tables.{levels_in}
use Rattle.tv_frame.specs.declared.events.Settled.{Settled}
use Rattle.tv_seats.specs.Seats.{Seat, with_stage}
use Rattle.tv_seats.specs.Stages.{is_waiting, may_settle}
use Rattle.tv_seats.specs.declared.stage.Stage.{Stage}
use Rattle.tv_frame.specs.Levels.{Level}
use Rattle.tv_forest.specs.seats.GoingOn.{GoesOn}
use Rattle.tv_forest.specs.seats.Seated.{spot_of}
use Rattle.tv_instances.specs.Firsts.{IsReadySeat}
use Rattle.tv_instances.specs.Standing.{IsOpen}
use Rattle.tv_instances.specs.declared.events.Spot.{Spot}
use Rattle.tv_instances.specs.declared.open.Open.{Open}

-- ---- jobs that begin

-- where the job of that number waits it is ready
abbrev pub WaitsReady : View → List Seat → ℕ → Type 0
WaitsReady v ss n = (s : Seat) → slice_get ss n ≡ Some s → is_waiting s.stage ≡ true
    → IsReadySeat v s

-- the job is at this stage from now on: of one that waited the frame was told that it is taken, of others nothing
pub record IsTaken (d : Document) (plan : FlowPlan) (pool : Nodes) (o p : Open) (v : View) (n : ℕ)
    (x : Stage) : Type 0
  where
    pub view : View
    pub is_open : IsOpen d plan pool p view
    pub waited :
        (s : Seat) → slice_get o.seats.seats n ≡ Some s → is_waiting s.stage ≡ true
        → GoesOn d (levels_in v.flow) v view (took (spot_of v.flow.steps s).0 s.place) []
    pub went_on : (s : Seat) → slice_get o.seats.seats n ≡ Some s → is_waiting s.stage ≡ false
        → view ≡ v
    pub seats : p.seats.seats ≡ with_stage n x o.seats.seats

-- the same before the seat moves
pub record IsToldTaken (d : Document) (plan : FlowPlan) (pool : Nodes) (o p : Open) (v : View)
    (n : ℕ) : Type 0 where
  pub view : View
  pub is_open : IsOpen d plan pool p view
  pub waited :
      (s : Seat) → slice_get o.seats.seats n ≡ Some s → is_waiting s.stage ≡ true
      → GoesOn d (levels_in v.flow) v view (took (spot_of v.flow.steps s).0 s.place) []
  pub went_on : (s : Seat) → slice_get o.seats.seats n ≡ Some s → is_waiting s.stage ≡ false
      → view ≡ v

-- ---- events

-- the frame was told e, and with it so many jobs became known, which sit behind these
pub record IsTold (d : Document) (plan : FlowPlan) (pool : Nodes) (p : Open) (v : View) (e : Event)
    (more : ℕ)
    (ss : List Seat) : Type 0 where
  pub view : View
  pub new : List Seat
  pub is_open : IsOpen d plan pool p view
  pub goes_on : GoesOn d (levels_in v.flow) v view e new
  pub many : length new ≡ more
  pub seats : p.seats.seats ≡ ss ++ new

-- ---- results

-- all room is taken for these as the result of the job of seat s, of step t
pub record IsReadyToGive (d : Document) (plan : FlowPlan) (pool : Nodes) (o : Open) (v : View)
    (s : Seat)
    (t : Name × Step) (vs : List Value) (x : Spot) : Type 0 where
  pub is_open : IsOpen d plan pool o v
  pub step : x.step ≡ s.step
  pub place : x.place ≡ s.place
  pub ready : IsReadyFor d.flows plan pool o.frame v s.step t (gave t.0 s.place vs)
  pub brings : Brings v (gave t.0 s.place vs) x.more
  pub room : o.seats.room ≡ x.more

-- and it runs, by what the frame was told
pub record MayBeGiven (d : Document) (plan : FlowPlan) (pool : Nodes) (o : Open) (v : View) (n : ℕ)
    (s : Seat)
    (t : Name × Step) (vs : List Value) (x : Spot) : Type 0 where
  pub ready : IsReadyToGive d plan pool o v s t vs x
  pub there : slice_get o.seats.seats n ≡ Some s
  pub may : may_settle s.stage ≡ true
  pub taken : is_taken v.events t.0 s.place ≡ true

-- or it waits, and is ready
pub record MayBeBounced (d : Document) (plan : FlowPlan) (pool : Nodes) (o : Open) (v : View)
    (n : ℕ) (s : Seat)
    (t : Name × Step) (vs : List Value) (x : Spot) : Type 0 where
  pub ready : IsReadyToGive d plan pool o v s t vs x
  pub there : slice_get o.seats.seats n ≡ Some s
  pub waits : is_waiting s.stage ≡ true
  pub free : IsReadyJob (levels_in v.flow) v (t.0, s.place)

-- ---- lists and faults

-- all room is taken to settle one by this event, with which so many jobs become known
pub record IsReadyToSettleAt (d : Document) (plan : FlowPlan) (pool : Nodes) (o : Open) (v : View)
    (e : Event) (more : ℕ)
    : Type 0 where
  pub is_open : IsOpen d plan pool o v
  pub number : ℕ
  pub step : Name × Step
  pub ready : IsReadyToSettle d.flows plan pool o.frame v number step e
  pub can : CanSettle v e
  pub brings : Brings v e more
  pub room : o.seats.room ≡ more
  -- as it is kept
  pub level : Level
  pub next : o.levels.next ≡ Some level
  pub is_level : IsLevelOf v number step e level

-- it tells what was settled, by the number of the event's step
abbrev pub TellsAt : List (Name × Step) → Settled → Event → Type 0
TellsAt steps x e =
    (n : ℕ) × (s : Name × Step) × (slice_get steps n ≡ Some s) × (event_step e ≡ s.0) × Tells x n e
