-- What is settled in an instance, and when a flow is opened.
use Rattle.std.specs.Prelude.{Bool, Box, List, None, Option, Some, false, find, length, not, slice_get, true, ℕ, ◌+◌, ◌-◌, ◌≡◌}
use Rattle.std.specs.declared.alloc.Global.{Global}
use Rattle.tv_value.specs.declared.place.Place.{Place}
use Rattle.tv_value.specs.Values.{Name, Value}
use Rattle.tv_gate.specs.Outcomes.{Giving}
use Rattle.tv_flow.specs.Flows.{Step}
use Rattle.tv_dispatch.specs.declared.plan.Plan.{Plan}
use Rattle.tv_check.specs.RunViews.{run_view}
use Rattle.tv_model.specs.instance.Events.{Event}
use Rattle.tv_model.specs.Jobs.{Job}
use Rattle.tv_history.specs.Histories.{next_ask}
use Rattle.tv_history.specs.order.Moments.{IsQuiet, all_jobs}
use Rattle.tv_instances.specs.Answers.{AreOutputs, CanSettle, has_ended_now}
use Rattle.tv_instances.specs.FramingViews.{View}
use Rattle.tv_frame.specs.Calls.{SameRegions}
use Rattle.tv_frame.specs.Prepared.{MayGive}
use Rattle.tv_frame.specs.Tables.{levels_in}
use Rattle.tv_frame.specs.declared.events.Settled.{Settled}
use Rattle.tv_frame.specs.declared.events.Settled.TheVariants as settled
use Rattle.tv_seats.specs.Seats.{Seat}
use Rattle.tv_seats.specs.declared.stage.Stage.{Stage}
use Rattle.tv_seats.specs.declared.stage.Stage.TheVariants as stage
use Rattle.tv_instances.specs.Forest.{Instance, Instances, IsAt}
use Rattle.tv_instances.specs.forest_firsts.Opening.{IsStill}
use Rattle.tv_history.specs.Calls.{Settles}
use Rattle.tv_history.specs.Runs.{past_of}
use Rattle.tv_model.specs.Opening.{first_nested}
use Rattle.tv_history.specs.declared.entry.Entry.{Entry}
use Rattle.tv_history.specs.declared.entry.Entry.TheVariants as entry
use Rattle.tv_instances.specs.Firsts.{BindsFault, IsReadySeat}
use Rattle.tv_instances.specs.declared.firsts.Seeking.TheVariants as seeking
use Rattle.tv_run.specs.Changes.{IsOpenHere, IsReadyToSettleIn, IsSeatHere}
use Rattle.tv_run.specs.Rooms.{IsAsBefore}
use Rattle.tv_run.specs.Standing.{Fits, Stands, StandsStill, run_of}
use Rattle.tv_run.specs.Turns.{StaysAs}
use Rattle.tv_run.specs.Walking.{IsNumber, MayBegin, is_sought, passes}
use Rattle.tv_run.specs.declared.instances.Instance as code
use Rattle.tv_run.specs.declared.run.OpenRun.{OpenRun}

abbrev pub bounces_job : ℕ → Entry
bounces_job k = entry.Bounced k

-- the entry of what was settled in an instance, with its place in this box
abbrev pub settled_entry : ℕ → Settled → Box Place Global → Entry
settled_entry i (settled.Closed s q n) b = entry.Closed i s (record b { value = q }) n
settled_entry i (settled.Passed s q) b = entry.Passed i s (record b { value = q })

-- ---- in one instance

-- of an open instance something holds, by what it was told
abbrev pub OfOpen : OpenRun → ℕ → (Instance → View → Type 0) → Type 0
OfOpen r i P = (xs : Instances) (x : Instance) (v : View) → Fits r xs → IsAt xs i x
    → x.view ≡ Some v → P x v

-- it is open
pub record IsOpenIn (gives : Giving) (r : OpenRun) (i : ℕ) : Type 0 where
  pub instances : Instances
  pub stands : Stands gives r instances
  pub going : r.outs ≡ None
  pub instance : Instance
  pub there : IsAt instances i instance
  pub view : View
  pub is_open : instance.view ≡ Some view

-- none of its ready jobs binds a fault
abbrev pub NothingBouncesIn : Instance → View → Type 0
NothingBouncesIn x v = (n : ℕ) (s : Seat) → slice_get x.seats n ≡ Some s → IsReadySeat v s
    → BindsFault v s false

-- seat n is of a ready job that binds a fault
abbrev pub BouncesIn : ℕ → Instance → View → Type 0
BouncesIn n x v = (s : Seat) × (slice_get x.seats n ≡ Some s) × IsReadySeat v s
    × BindsFault v s true

abbrev pub EndsIn : Instance → View → Type 0
EndsIn x v = has_ended_now (levels_in v.flow) v ≡ true

-- the job of seat n of instance i, which is s, of step t, may give what instance k gives, which has ended
pub record GivesTo (r : OpenRun) (xs : Instances) (i : ℕ) (x : Instance) (v : View) (n : ℕ)
    (s : Seat) (t : Name × Step) (k : ℕ) (y : Instance) (w : View) : Type 0 where
  pub seat : IsSeatHere r xs i x v n s t
  pub here : IsOpenHere r xs k y w
  pub ends : EndsIn y w
  pub apart : k ≡ i → ⊥
  pub may : (vs : List Value) → AreOutputs w vs → MayGive v t s.place vs

abbrev pub EndsNot : Instance → View → Type 0
EndsNot x v = has_ended_now (levels_in v.flow) v ≡ false

-- it ends, or can't
abbrev pub EndsOrNot : Giving → OpenRun → OpenRun → ℕ → Bool → Type 0
EndsOrNot gives r s i true = StandsStill gives s × Settles (run_of r) (run_of s)
EndsOrNot gives r s i false = (s ≡ r) × OfOpen r i EndsNot

-- something is settled, or all is as it was and nothing could be settled in the instance
abbrev pub SettlesIn : Giving → OpenRun → OpenRun → ℕ → Bool → Type 0
SettlesIn gives r s i true = StandsStill gives s × Settles (run_of r) (run_of s)
SettlesIn gives r s i false =
    IsAsBefore r s × (s.busy.items ≡ r.busy.items) × OfOpen r i (λ x v. IsStill levels_in x v)

-- the last of those in which something may be settled
abbrev pub last_busy : OpenRun → Option ℕ
last_busy r = slice_get r.busy.items (length r.busy.items - 1)

-- of these instances nothing can be settled in it, or it has ended
abbrev pub LastIsStill : OpenRun → Instances → Type 0
LastIsStill r xs =
    (i : ℕ) (x : Instance) (v : View) → last_busy r ≡ Some i → IsAt xs i x → x.view ≡ Some v
    → IsStill levels_in x v

abbrev pub SettlesLast : Giving → OpenRun → OpenRun → Bool → Type 0
SettlesLast gives r s true = StandsStill gives s × Settles (run_of r) (run_of s)
SettlesLast gives r s false =
    IsAsBefore r s × (s.busy.items ≡ r.busy.items)
    × ((xs : Instances) → Fits r xs → LastIsStill r xs)

-- it is no longer among them
pub record LeavesLast (r s : OpenRun) : Type 0 where
  pub fits : (xs : Instances) → Fits r xs → LastIsStill r xs → Fits s xs
  pub same : run_of s ≡ run_of r
  pub regions : SameRegions r.pool s.pool
  pub entries : s.entries ≡ r.entries
  pub due : s.due ≡ r.due
  pub failed : s.failed ≡ r.failed
  pub outs : s.outs ≡ r.outs
  pub fewer : length s.busy.items + 1 ≡ length r.busy.items

-- ---- jobs and lists

-- job k, which is j, can be bounced
pub record IsBouncedJob (gives : Giving) (r : OpenRun) (xs : Instances) (k : ℕ)
    (j : Job) : Type 0 where
  pub outer : ℕ
  pub number : ℕ
  pub instance : Instance
  pub seat : Seat
  pub is_number : IsNumber gives r xs k outer number instance seat j
  pub view : View
  pub is_open : instance.view ≡ Some view
  pub ready : IsReadySeat view seat
  pub faulty : BindsFault view seat true

-- a list or fault can be settled by this event, with which so many jobs become known
pub record IsReadyToSettleLevel (gives : Giving) (r : OpenRun) (i : ℕ) (e : Event)
    (more : ℕ) : Type 0 where
  pub here : IsOpenIn gives r i
  pub can : CanSettle here.view e
  pub ready : IsReadyToSettleIn r i here.view e more

-- ---- openings

-- nothing is left to settle but flows to open
abbrev pub IsQuietRun : Giving → OpenRun → Type 0
IsQuietRun gives r = IsQuiet gives (run_view r.run) (past_of (run_of r))

-- something is settled, or nothing is left to settle but flows to open
abbrev pub SettlesBusy : Giving → OpenRun → OpenRun → Bool → Type 0
SettlesBusy gives r s true = StandsStill gives s × Settles (run_of r) (run_of s)
SettlesBusy gives r s false = StaysAs gives r s × IsQuietRun gives s

-- job k is the first that goes on
pub record GoesOnFirst (gives : Giving) (r : OpenRun) (k : ℕ) : Type 0 where
  pub instances : Instances
  pub stands : Stands gives r instances
  pub going : r.outs ≡ None
  pub quiet : IsQuietRun gives r
  pub job : Job
  pub first : find (passes gives r seeking.All) (all_jobs gives (run_view r.run)) ≡ Some job
  pub may : MayBegin gives r instances k job

-- and has a flow next
pub record OpensFirst (gives : Giving) (r : OpenRun) (k : ℕ) : Type 0 where
  pub goes : GoesOnFirst gives r k
  pub no_ask : next_ask (past_of (run_of r)) goes.job ≡ None

-- the job that opened the instance
pub record IsOpenerOf (r : OpenRun) (i k : ℕ) : Type 0 where
  pub itself : code.Instance
  pub there : slice_get r.instances.items i ≡ Some itself
  pub opener : itself.opener ≡ Some k

-- the flow that a step's jobs open
abbrev pub opened_flow : Step → Option Name
opened_flow s = first_nested s.activities

-- whether a job at this stage, with these tries, has a flow next
abbrev pub has_flow_next : Plan → Option Stage → Bool
has_flow_next p (Some (stage.Aside a)) = true
has_flow_next p (Some stage.Waiting) = not (is_sought p seeking.Offers)
has_flow_next p x = false
