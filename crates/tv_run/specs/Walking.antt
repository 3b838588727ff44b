-- What the walk to the first job that goes on finds.
use Rattle.std.specs.Option.{option_map_or}
use Rattle.std.specs.Prelude.{Bool, None, Option, Some, false, find, slice_get, true, ℕ, ◌≡◌}
use Rattle.tv_gate.specs.Outcomes.{Giving}
use Rattle.tv_flow.specs.Flows.{Document}
use Rattle.tv_check.specs.RunViews.{run_view}
use Rattle.tv_dispatch.specs.declared.plan.Kind.{Kind}
use Rattle.tv_dispatch.specs.declared.plan.Kind.TheVariants as kind
use Rattle.tv_dispatch.specs.declared.plan.Plan.{Plan}
use Rattle.tv_model.specs.Jobs.{Job}
use Rattle.tv_history.specs.Entries.{History}
use Rattle.tv_history.specs.Histories.{next_ask}
use Rattle.tv_model.specs.JobOrder.{place_before}
use Rattle.tv_history.specs.order.Moments.{all_jobs, goes_on, has_offer}
use Rattle.tv_instances.specs.FramingViews.{View}
use Rattle.tv_seats.specs.Firsts.{MayGoOut, MayNest}
use Rattle.tv_seats.specs.Seats.{Seat}
use Rattle.tv_instances.specs.seats.Seated.{IsNextTry}
use Rattle.tv_instances.specs.Forest.{Instance, Instances, IsJobAt}
use Rattle.tv_instances.specs.forest_firsts.FirstWithin.{IsFirst, IsFirstWithin, IsFoundAt}
use Rattle.tv_history.specs.Runs.{past_of}
use Rattle.tv_history.specs.declared.ticket.Ticket.{Ticket}
use Rattle.tv_instances.specs.Events.{WaitsReady}
use Rattle.tv_instances.specs.declared.firsts.Seeking.{Seeking}
use Rattle.tv_instances.specs.declared.firsts.Seeking.TheVariants as seeking
use Rattle.tv_seats.specs.declared.stage.Stage.TheVariants as stage
use Rattle.tv_run.specs.Jobs.{stage_of}
use Rattle.tv_run.specs.Standing.{numbers_of, run_of}
use Rattle.tv_run.specs.declared.run.OpenRun.{OpenRun}

-- whose next try is on offer, or with those that can open their flow
abbrev pub passing : Giving → Document → History → Seeking → Job → Bool
passing gives d past seeking.Offers = has_offer gives d past
passing gives d past seeking.All = goes_on gives d past

-- a seat of the step stands before that one, or there is no other
abbrev pub StandsBeforeOwn : Instance → Seat → Option ℕ → Type 0
StandsBeforeOwn x t None = Unit {0}
StandsBeforeOwn x t (Some n) = (s : Seat) → slice_get x.seats n ≡ Some s
    → place_before t.place s.place ≡ true

module _ (gives : Giving) (r : OpenRun) where
  abbrev pub passes : Seeking → Job → Bool
  passes s = passing gives (run_view r.run) (past_of (run_of r)) s

  -- job k of the run is j: that of seat n of instance i
  pub record IsNumber (xs : Instances) (k i n : ℕ) (x : Instance) (s : Seat)
      (j : Job) : Type 0 where
    pub numbered : slice_get (numbers_of r) k ≡ Some (i, n)
    pub is_job : IsJobAt gives (run_view r.run) xs i n x s j

  -- it may go out, or open its flow: it is idle or put aside, the first of its step, or waits and is ready
  pub record MayBegin (xs : Instances) (k : ℕ) (j : Job) : Type 0 where
    pub outer : ℕ
    pub number : ℕ
    pub instance : Instance
    pub seat : Seat
    pub is_number : IsNumber xs k outer number instance seat j
    pub view : View
    pub is_open : instance.view ≡ Some view
    pub ready : WaitsReady view instance.seats number
    -- with a try next it may go out, with a flow next it may nest
    pub out : (next_ask (past_of (run_of r)) j ≡ None → ⊥) → MayGoOut instance.seats number
    pub nest : next_ask (past_of (run_of r)) j ≡ None → MayNest instance.seats number

  -- the first job inside an instance, by its number in the run
  abbrev pub IsFoundInside : Instances → Seeking → Instance → Option ℕ → Type 0
  IsFoundInside xs s x None = IsFirstWithin gives (run_view r.run) (passes s) x.name None
  IsFoundInside xs s x (Some k) =
      (j : Job) × IsFirst gives (run_view r.run) (passes s) x.name j × MayBegin xs k j

  -- the first of all
  abbrev pub IsFound : Instances → Seeking → Option ℕ → Type 0
  IsFound xs s None = find (passes s) (all_jobs gives (run_view r.run)) ≡ None
  IsFound xs s (Some k) =
      (j : Job) × (find (passes s) (all_jobs gives (run_view r.run)) ≡ Some j) × MayBegin xs k j

  -- ---- one step

  -- where one passes itself, it may begin
  abbrev pub IsOwnBegun : Instances → ℕ → Instance → Option ℕ → Type 0
  IsOwnBegun xs i x None = Unit {0}
  IsOwnBegun xs i x (Some n) =
      (k : ℕ) (t : Seat) (j : Job) → IsNumber xs k i n x t j → MayBegin xs k j

  -- of the jobs of a step of instance i that pass themselves, that of seat n has the least place
  pub record IsFirstOwn (xs : Instances) (s : Seeking) (i : ℕ) (x : Instance)
      (step n : ℕ) : Type 0 where
    pub seat : Seat
    pub job : Job
    pub is_job : IsJobAt gives (run_view r.run) xs i n x seat job
    pub of_step : seat.step ≡ step
    pub does : passes s job ≡ true
    pub first :
        (m : ℕ) (t : Seat) (k : Job) → IsJobAt gives (run_view r.run) xs i m x t k → t.step ≡ step
        → passes s k ≡ true → place_before t.place seat.place ≡ false

  abbrev pub IsOwn : Instances → Seeking → ℕ → Instance → ℕ → Option ℕ → Type 0
  IsOwn xs s i x step None =
      (n : ℕ) (t : Seat) (j : Job) → IsJobAt gives (run_view r.run) xs i n x t j → t.step ≡ step
      → passes s j ≡ false
  IsOwn xs s i x step (Some n) = IsFirstOwn xs s i x step n

  -- what is found at a job of an instance: inside its open flow, or itself where it passes
  abbrev pub IsFoundAtJob : Seeking → Job → Option Job → Type 0
  IsFoundAtJob s j o = IsFoundAt gives (run_view r.run) (passes s) (past_of (run_of r)) j o

  -- job k is found at a seat of the step, and nothing at those of the step that stand before it
  pub record IsFoundAtStep (xs : Instances) (s : Seeking) (i : ℕ) (x : Instance)
      (step k : ℕ) : Type 0 where
    pub number : ℕ
    pub seat : Seat
    pub job : Job
    pub is_job : IsJobAt gives (run_view r.run) xs i number x seat job
    pub of_step : seat.step ≡ step
    pub found : Job
    pub is_found : IsFoundAtJob s job (Some found)
    pub may : MayBegin xs k found
    pub first :
        (m : ℕ) (t : Seat) (l : Job) → IsJobAt gives (run_view r.run) xs i m x t l → t.step ≡ step
        → place_before t.place seat.place ≡ true → IsFoundAtJob s l None

  -- or nothing is found at any of the step
  abbrev pub IsFoundOf : Instances → Seeking → ℕ → Instance → ℕ → Option ℕ → Type 0
  IsFoundOf xs s i x step None =
      (m : ℕ) (t : Seat) (l : Job) → IsJobAt gives (run_view r.run) xs i m x t l → t.step ≡ step
      → IsFoundAtJob s l None
  IsFoundOf xs s i x step (Some k) = IsFoundAtStep xs s i x step k

  -- the same for those of a step that stand before one that passes itself
  abbrev pub IsFoundBefore : Instances → Seeking → ℕ → Instance → ℕ → Option ℕ → Option ℕ → Type 0
  IsFoundBefore xs s i x step own None =
      (m : ℕ) (t : Seat) (l : Job) → IsJobAt gives (run_view r.run) xs i m x t l → t.step ≡ step
      → StandsBeforeOwn x t own → IsFoundAtJob s l None
  IsFoundBefore xs s i x step own (Some k) = IsFoundAtStep xs s i x step k

  -- ---- tickets

  -- job k is on offer
  abbrev pub IsOnOffer : Instances → ℕ → Type 0
  IsOnOffer xs k = (j : Job) × MayBegin xs k j × (passes seeking.Offers j ≡ true)

  -- the ticket of its next try
  pub record IsTicketOf (xs : Instances) (k : ℕ) (t : Ticket) : Type 0 where
    pub job : t.job ≡ k
    pub next :
        (i n : ℕ) (x : Instance) (s : Seat) (j : Job) → IsNumber xs k i n x s j
        → passes seeking.Offers j ≡ true
        → IsNextTry (past_of (run_of r)) j t.activity t.attempt

  -- this try of job k may be handed out next
  pub record IsHandable (xs : Instances) (t : Ticket) : Type 0 where
    pub job : Job
    pub first : find (passes seeking.Offers) (all_jobs gives (run_view r.run)) ≡ Some job
    pub is_next : IsNextTry (past_of (run_of r)) job t.activity t.attempt
    pub may : MayBegin xs t.job job

-- job k waits
abbrev pub WaitsIn : OpenRun → ℕ → Type 0
WaitsIn r k = stage_of r k ≡ Some stage.Waiting

-- ---- what is sought

abbrev pub is_service_kind : Kind → Bool
is_service_kind kind.Service = true
is_service_kind kind.Nested = false

-- jobs of a step with these tries are sought before they have begun: all are, or those whose first activity is a service
abbrev pub is_sought : Plan → Seeking → Bool
is_sought p seeking.All = true
is_sought p seeking.Offers = option_map_or is_service_kind (slice_get p.activities 0) false
