-- An open instance settles a list or passes a fault where one can be, once there is room for that; or else it is still but for its end.
use Rattle.std.specs.Prelude.{Box, ◌≡◌, ℕ, ◌<◌, Bool, true, false, IfSome, Option, Some, length, slice_get, slice_index_or}
use Rattle.std.specs.declared.alloc.Global.{Global}
use Rattle.std.proofs.Common.{ap, subst, sym, ◌∙◌}
use Rattle.tv_value.specs.declared.place.Place.{Place}
use Rattle.tv_gate.specs.Outcomes.{Giving}
use Rattle.tv_flow.specs.Flows.{Document, Flow}
use Rattle.tv_check.specs.FlowPlanViews.{flow_plan_view}
use Rattle.tv_check.specs.Plans.{flow_plans}
use Rattle.tv_check.specs.RunViews.{run_view}
use Rattle.tv_check.specs.declared.plans.FlowPlan.{FlowPlan}
use Rattle.tv_model.specs.instance.Events.{Event}
use Rattle.tv_instances.specs.Answers.{IsReadyJob, NothingSettles, has_ended_now}
use Rattle.tv_instances.specs.FramingViews.{View}
use Rattle.tv_frame.specs.Tables.{levels_in}
use Rattle.tv_frame.specs.declared.events.Settled.{Settled}
use Rattle.tv_instances.specs.seats.Seated.{spot_of}
use Rattle.tv_instances.specs.Forest.{Instance, Instances}
use Rattle.tv_instances.specs.forest_firsts.Opening as opening
use Rattle.tv_instances.specs.forest_firsts.Opening.{IsStill}
use Rattle.tv_history.specs.Calls.{Settles}
use Rattle.tv_instances.specs.Events.{IsReadyToSettleAt, TellsAt}
use Rattle.tv_instances.specs.Standing.{IsOpen}
use Rattle.tv_instances.specs.declared.open.Open.{Open}
use Rattle.tv_run.specs.Changes.{IsOpenHere, IsReadyToSettleIn, TellsIn}
use Rattle.tv_run.specs.Rooms.{HasRoomIn, IsAsBefore, IsNoted, IsSameButRooms}
use Rattle.tv_run.specs.Settlements.{EndsNot, EndsOrNot, IsOpenIn, IsReadyToSettleLevel, NothingBouncesIn, OfOpen, SettlesIn, settled_entry}
use Rattle.tv_run.specs.Standing.{StandsOpen, run_of}
use Rattle.tv_run.specs.Turns.{StaysAs}
use Rattle.tv_run.specs.declared.instances.Instance as code
use Rattle.tv_run.specs.declared.run.OpenRun.{OpenRun}
use Rattle.tv_run.proofs.Itself as itself
use Rattle.tv_run.proofs.Itself.{IsCalled, its-code, number-low, open-read, plan-is}
use Rattle.tv_run.proofs.Levels.{level-settles, ready-then}
use Rattle.tv_run.proofs.Roomed.{ready-to_settle, roomed, still-open}
use Rattle.tv_run.proofs.Rooms.{before-rooms, open-before, stands-before, stays-before}
use Rattle.tv_run.proofs.Settled.{at-some, stays-from}
use Rattle.tv_run.proofs.Settlings.{level-goes, settles-in}
use Rattle.tv_run.proofs.Bouncing.{open-here}

-- ---- an instance that is open

pub open-low : (gives : Giving) (r : OpenRun) (i : ℕ) → IsOpenIn gives r i → i < length r.instances.items
open-low gives r i o = number-low r i o.instances o.instance o.view (open-here gives r i o)

-- and is so with other rooms
abbrev pub open-then : (gives : Giving) (r m : OpenRun) (i : ℕ) → IsAsBefore r m → IsOpenIn gives r i → IsOpenIn gives m i
open-then gives r m i b o = record {
  instances = o.instances;
  stands = stands-before gives r m b o.instances o.stands;
  going = b.outs ∙ o.going;
  instance = o.instance;
  there = o.there;
  view = o.view;
  is_open = o.is_open;
}

-- ---- what it is ready for is settled

module _ (gives : Giving) (r : OpenRun) (i more : ℕ) (e : Event) (q : IsReadyToSettleLevel gives r i e more) (m : OpenRun)
    (rooms : IsSameButRooms r m) where
  before : IsAsBefore r m
  before = before-rooms r m rooms

  abbrev o : IsOpenIn gives m i
  o = open-then gives r m i before q.here

  pub here-then : IsOpenHere m q.here.instances i q.here.instance q.here.view
  here-then = open-here gives m i o

  pub ready-here : IsReadyToSettleIn m i q.here.view e more
  ready-here = ready-then gives r m i more e q rooms

  module _ (room : HasRoomIn m i more) (t : OpenRun)
      (tells : TellsIn m t q.here.instances i q.here.instance q.here.view e more q.here.instance.seats) where
    pub level-settled : (s : OpenRun) (y : Settled) (b : Box Place Global) → TellsAt q.here.instance.flow.steps y e
        → IsNoted t s (settled_entry i y b) → SettlesIn gives r s i true
    level-settled s y b at noted =
        settles-in gives r m s i (settled_entry i y b) before.same (level-settles y i b)
        (level-goes gives m t s q.here.instances i q.here.instance q.here.view e more o.stands o.going q.here.there
        q.here.is_open q.can tells y at b noted room.beside.entries)

-- ---- and where nothing was, it ends or is still

module _ (gives : Giving) (r m : OpenRun) (i : ℕ) (before : IsAsBefore r m) where
  pub settled-from : (s : OpenRun) → SettlesIn gives m s i true → SettlesIn gives r s i true
  settled-from s h = (h.0, subst (λ q. Settles q (run_of s)) before.same h.1)

  pub stays-after : (s : OpenRun) → (StandsOpen gives m → StaysAs gives m s) → StandsOpen gives r → StaysAs gives r s
  stays-after s h so =
      stays-from gives r m s (stays-before gives r m before so) (h (open-before gives r m before so))

  module _ (busy : m.busy.items ≡ r.busy.items) (calm : OfOpen r i NothingBouncesIn)
      (none : OfOpen r i (λ x v. NothingSettles v)) where
    still : OfOpen m i EndsNot → OfOpen r i (λ x v. IsStill levels_in x v)
    still unended xs x v fits there is_open =
        let flow : v.flow ≡ x.flow =
        (its-code r i xs x v (record { fits = fits; there = there; is_open = is_open })).opened.flow in
        record {
          bounces = λ n s at ready.
              subst (λ (f : Flow). opening.BindsFault v (spot_of f.steps s) false) flow
              (calm xs x v fits there is_open n s at
              (subst (λ (f : Flow). IsReadyJob (levels_in f) v (spot_of f.steps s)) (sym flow) ready.1));
          settles = none xs x v fits there is_open;
          ends =
              subst (λ (f : Flow). has_ended_now (levels_in f) v ≡ false) flow
              (unended xs x v (before.fits xs fits) there is_open);
        }

    pub ends-or_still : (s : OpenRun) (b : Bool) → EndsOrNot gives m s i b → SettlesIn gives r s i b
    ends-or_still s true h = settled-from s h
    ends-or_still s false h = (
      subst (IsAsBefore r) (sym h.0) before,
      ap (λ (q : OpenRun). q.busy.items) h.0 ∙ busy,
      still h.1,
    )

-- ---- room for settling it was taken

module _ (r : OpenRun) (i : ℕ) (c : code.Instance) (read : c ≡ slice_index_or r.instances.items i c) (plan : FlowPlan)
    (planned : slice_get (flow_plans (run_view r.run)) c.flow ≡ Some (flow_plan_view plan)) (g : code.Instance)
    (again : g ≡ slice_index_or r.instances.items i g) (q : Open) (first : q ≡ slice_index_or g.open.items 0 q) where
  still-there : (xs : Instances) (x : Instance) (v : View) → IsOpenHere r xs i x v → IsOpen (run_view r.run) plan r.pool q v
  still-there xs x v here =
      still-open r i xs x v here plan (plan-is r i xs x v here c read plan planned) q
      (open-read r i xs x v here g again q first)

  pub none-settles : ((d : Document) (v : View) → IsOpen d plan r.pool q v → NothingSettles v)
      → OfOpen r i (λ x v. NothingSettles v)
  none-settles none xs x v fits there is_open =
      none (run_view r.run) v (still-there xs x v (record { fits = fits; there = there; is_open = is_open }))

  module _ (gives : Giving) (o : IsOpenIn gives r i) where
    pub its-open : IsOpen (run_view r.run) plan r.pool q o.view
    its-open = still-there o.instances o.instance o.view (open-here gives r i o)

    module _ (m : OpenRun) (p : Open) (called : IsCalled r m i g p) (due : m.due ≡ r.due)
        (regions : m.pool.regions ≡ r.pool.regions) (seats : p.seats.seats ≡ q.seats.seats)
        (region : p.frame.region ≡ q.frame.region)
        (same : (d : Document) (w : View) → IsOpen d plan r.pool q w → IsOpen d plan m.pool p w) where
      here-now : IsOpenHere r o.instances i o.instance o.view
      here-now = open-here gives r i o

      is : q ≡ itself.o r i o.instances o.instance o.view here-now
      is = open-read r i o.instances o.instance o.view here-now g again q first

      pub room-taken : IsAsBefore r m
      room-taken =
          roomed r i o.instances o.instance o.view here-now c read plan planned g again q is m p called due regions seats
          region same

      abbrev IsReadyWith : ℕ → Type 0
      IsReadyWith k =
          (d : Document) (v : View) → IsOpen d plan r.pool q v → (e : Event) × IsReadyToSettleAt d plan m.pool p v e k

      pub level-ready : (found : Option ℕ) (more : ℕ) → found ≡ Some more → IfSome found IsReadyWith
          → (e : Event) × IsReadyToSettleLevel gives m i e more
      level-ready found more is_found some =
          let w = at-some IsReadyWith found more is_found some (run_view r.run) o.view its-open in (
            w.0,
            record {
              here = open-then gives r m i room-taken o;
              can = w.1.can;
              ready =
                  ready-to_settle r i o.instances o.instance o.view here-now c read plan planned g again q is m p called w.0
                  more w.1;
            },
          )
