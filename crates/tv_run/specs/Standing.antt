-- How a run stands: what the code has are these instances, whatever was done before; and by the services' meaning the history has led
-- to them.
use Rattle.std.specs.List.{sum_by}
use Rattle.std.specs.Option.{option_map_or}
use Rattle.std.specs.Prelude.{Bool, List, None, Option, Some, [], count_by, false, filter, is_none, is_some, length, map, option_and_then, option_map, slice_get, true, vec_capacity, ℕ, ◌+◌, ◌++◌, ◌<◌, ◌∷◌, ◌≡◌, ◌≤◌, ◌||◌}
use Rattle.tv_lemmas.specs.Members.{In}
use Rattle.tv_value.specs.Values.{JobName, Name}
use Rattle.tv_gate.specs.Outcomes.{Giving}
use Rattle.tv_strategy.specs.Origins.{plain}
use Rattle.tv_flow.specs.Flows.{Document, Flow, Step}
use Rattle.tv_flow.specs.Views.{flow_view}
use Rattle.tv_check.specs.RunViews.{run_view}
use Rattle.tv_check.specs.declared.plans.FlowPlan.{FlowPlan}
use Rattle.tv_cell.specs.PieceValues.{piece_values}
use Rattle.tv_cell.specs.Soundness.{AreSound}
use Rattle.tv_model.specs.Jobs.{Job}
use Rattle.tv_model.specs.Meanings.{meaning}
use Rattle.tv_history.specs.Histories.{is_settled}
use Rattle.tv_history.specs.ReadOff.{has_failed}
use Rattle.tv_instances.specs.FramingViews.{View}
use Rattle.tv_frame.specs.Tables.{levels_in}
use Rattle.tv_frame.specs.declared.frame.Frame.{Frame}
use Rattle.tv_frame_laws.specs.Theirs.{AreTheirs}
use Rattle.tv_seats.specs.Seats.{Seat}
use Rattle.tv_seats.specs.Tables.{Rows}
use Rattle.tv_seats.specs.Stages.{is_aside, is_idle, is_waiting}
use Rattle.tv_seats.specs.declared.stage.Stage.{Stage}
use Rattle.tv_instances.specs.seats.Seated.{AreAtSteps, spot_of}
use Rattle.tv_instances.specs.Forest.{AreNumbered, Instance, Instances, IsAt, Stand, TellsNumbers, names_by}
use Rattle.tv_instances.specs.forest_firsts.Opening.{IsStill}
use Rattle.tv_history.specs.Runs.{IsLegalRun, Run, instances_of, meant, past_of}
use Rattle.tv_instances.specs.Standing.{IsOpen}
use Rattle.tv_instances.specs.declared.open.Open.{Open}
use Rattle.tv_frame.specs.Views.{level_view}
use Rattle.tv_run.specs.Ended.{AreMainLevels}
use Rattle.tv_run.specs.Looks.{AreLooks, IsFlow}
use Rattle.tv_run.specs.declared.ended.Ended.{Ended}
use Rattle.tv_run.specs.declared.instances.Instance as code
use Rattle.tv_run.specs.declared.instances.Numbered.{Numbered}
use Rattle.tv_run.specs.declared.run.OpenRun.{OpenRun}

-- ---- jobs by number

abbrev pub numbered_as : Numbered → ℕ × ℕ
numbered_as k = (k.instance, k.number)

abbrev pub numbers_of : OpenRun → List (ℕ × ℕ)
numbers_of r = map numbered_as r.jobs.items

-- ---- names, by the code alone

-- the seats of an instance's jobs, while it is open and after
abbrev pub seats_of : code.Instance → List Seat
seats_of c = by c.open.items
  where
    by : List Open → List Seat
    by [] = option_map_or (λ (s : Rows). s.seats) c.seats []
    by (o ∷ os) = o.seats.seats

abbrev pub steps_of : Document → code.Instance → List (Name × Step)
steps_of d c = option_map_or (λ (f : Name × Flow). f.1.steps) (slice_get d.flows c.flow) []

abbrev pub opener_name : List JobName → Option ℕ → JobName
opener_name so_far None = []
opener_name so_far (Some k) = option_map_or (λ n. n) (slice_get so_far k) []

-- the name of the job that opened its instance, with its own step and place behind it
abbrev pub name_behind : OpenRun → List JobName → Numbered → JobName
name_behind r so_far k =
    option_map_or
    (λ (c : code.Instance). opener_name so_far c.opener
    ++ option_map_or (λ s. spot_of (steps_of (run_view r.run) c) s ∷ [])
    (slice_get (seats_of c) k.number) [])
    (slice_get r.instances.items k.instance) []

-- each job stands behind the one that opened its instance
abbrev pub names_from : OpenRun → List JobName → List Numbered → List JobName
names_from r so_far [] = so_far
names_from r so_far (k ∷ ks) = names_from r (so_far ++ name_behind r so_far k ∷ []) ks

abbrev pub names_of : OpenRun → List JobName
names_of r = names_from r [] r.jobs.items

-- the run that callers see, told by the code alone
abbrev pub run_of : OpenRun → Run
run_of r = record { document = run_view r.run; names = names_of r; entries = r.entries.items }

-- ---- one instance

-- the open instance c is x, told v
pub record IsOpenOf (r : OpenRun) (c : code.Instance) (x : Instance) (v : View) : Type 0 where
  pub itself : Open
  pub there : c.open.items ≡ itself ∷ []
  pub flow : v.flow ≡ x.flow
  pub is_open : (plan : FlowPlan) → flow_view plan.flow ≡ x.flow
      → IsOpen (run_view r.run) plan r.pool itself v
  -- where it isn't busy nothing can be settled in it
  pub still : c.is_busy ≡ false → IsStill levels_in x v

-- it is open, or has ended
abbrev pub IsLife : OpenRun → code.Instance → Instance → Option View → Type 0
IsLife r c x (Some v) = IsOpenOf r c x v
IsLife r c x None = (c.open.items ≡ []) × (is_some c.seats ≡ true)

-- number i of the code is x
pub record IsKept (r : OpenRun) (i : ℕ) (c : code.Instance) (x : Instance) : Type 0 where
  pub flow : IsFlow (run_view r.run) c.flow x.flow
  pub seats : seats_of c ≡ x.seats
  pub steps : AreAtSteps x.flow.steps x.seats
  pub main : c.opener ≡ None → (i ≡ 0) × (x.name ≡ [])
  pub opener : (k : ℕ) → c.opener ≡ Some k → slice_get (names_of r) k ≡ Some x.name
  pub numbered : TellsNumbers (numbers_of r) i c.jobs.items
  -- while it is open
  pub as_many : is_some x.view ≡ true → length c.jobs.items ≡ length x.seats
  pub life : IsLife r c x x.view

-- ---- all instances

-- the frame of the instance of that number, while it is open
abbrev pub frame_at : OpenRun → ℕ → Option Frame
frame_at r i =
    option_and_then (λ (c : code.Instance). option_map (λ (o : Open). o.frame)
    (slice_get c.open.items 0))
    (slice_get r.instances.items i)

-- its job may be handed out, or open a flow
abbrev pub is_due : Stage → Bool
is_due x = is_waiting x || is_idle x || is_aside x

abbrev pub due_in : Instance → ℕ
due_in x = count_by (λ s. is_due s.stage) x.seats

-- what the code has are these instances: no word of histories or services
pub record Fits (r : OpenRun) (xs : Instances) : Type 0 where
  pub as_many : length r.instances.items ≡ length xs
  pub kept :
      (i : ℕ) (c : code.Instance) (x : Instance) → slice_get r.instances.items i ≡ Some c
      → IsAt xs i x → IsKept r i c x
  pub looks : AreLooks (run_view r.run) r.looks.items
  pub numbered : AreNumbered xs (numbers_of r)
  pub names_are : names_of r ≡ names_by xs (numbers_of r)
  -- the job that opened an instance has a lesser number than those inside
  pub behind :
      (k : ℕ) (n : Numbered) (c : code.Instance) (m : ℕ) → slice_get r.jobs.items k ≡ Some n
      → slice_get r.instances.items n.instance ≡ Some c → c.opener ≡ Some m → m < k
  pub theirs : AreTheirs r.pool (frame_at r)
  -- each that is busy is among the busy ones
  pub busy :
      (i : ℕ) (c : code.Instance) → slice_get r.instances.items i ≡ Some c → c.is_busy ≡ true
      → In i r.busy.items
  pub busy_low : (i : ℕ) → In i r.busy.items → i < length r.instances.items
  pub due_is : r.due ≡ sum_by due_in xs

-- ---- all of it

abbrev pub failed_count : Giving → Run → ℕ
failed_count gives r =
    count_by (λ (j : Job). has_failed (past_of r) j.name)
    (filter (is_settled (past_of r)) (meant gives r).jobs)

-- what the main flow gives, from its end on
abbrev pub OutsAre : Giving → Document → Option Ended → Bool → Type 0
OutsAre gives d None ended = ended ≡ false
OutsAre gives d (Some e) ended =
    (ended ≡ true) × AreSound e.outs
    × (piece_values e.outs ≡ map (λ o. plain o.1) (meaning gives d).outputs)
    × AreMainLevels gives d (map level_view e.levels.items)

-- by the services' meaning of its document the run stands so, and these are its instances
pub record Stands (gives : Giving) (r : OpenRun) (xs : Instances) : Type 0 where
  pub fits : Fits r xs
  pub stand : Stand gives (run_view r.run) levels_in (past_of (run_of r)) xs
  pub named : instances_of (names_of r) r.entries.items ≡ map (λ (x : Instance). x.name) xs
  pub legal : IsLegalRun gives (run_of r)
  pub failed_is : r.failed ≡ failed_count gives (run_of r)
  -- each due job has the room of an entry
  pub room : length r.entries.items + r.due ≤ vec_capacity r.entries
  pub outs_are : (x : Instance) → IsAt xs 0 x
      → OutsAre gives (run_view r.run) r.outs (is_none x.view)

-- so it stands, with some instances
abbrev pub StandsStill : Giving → OpenRun → Type 0
StandsStill gives r = (xs : Instances) × Stands gives r xs

-- and the main instance is open
abbrev pub StandsOpen : Giving → OpenRun → Type 0
StandsOpen gives r = (xs : Instances) × Stands gives r xs × (r.outs ≡ None)
