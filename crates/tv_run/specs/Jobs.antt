-- A job by its number: its seat, its step, and the try that is out.
use Rattle.std.specs.Prelude.{Bool, List, None, Option, Some, [], false, option_and_then, option_map, slice_get, true, ℕ, ◌&&◌, ◌==◌, ◌∷◌, ◌≡◌}
use Rattle.tv_value.specs.Activities.{Activity, nested, service}
use Rattle.tv_value.specs.Values.{Name}
use Rattle.tv_flow.specs.Flows.{Step}
use Rattle.tv_check.specs.RunViews.{run_view}
use Rattle.tv_seats.specs.Seats.{Seat}
use Rattle.tv_seats.specs.declared.stage.Stage.{Stage}
use Rattle.tv_seats.specs.declared.stage.Stage.TheVariants as stage
use Rattle.tv_instances.specs.declared.open.Open.{Open}
use Rattle.tv_run.specs.Standing.{numbers_of, seats_of, steps_of}
use Rattle.tv_run.specs.declared.instances.Instance as code
use Rattle.tv_run.specs.declared.instances.Numbered.{Numbered}
use Rattle.tv_run.specs.declared.run.OpenRun.{OpenRun}

-- the instance of a job
abbrev pub instance_of : OpenRun → ℕ → Option code.Instance
instance_of r k =
    option_and_then (λ (n : Numbered). slice_get r.instances.items n.instance)
    (slice_get r.jobs.items k)

abbrev pub seat_of : OpenRun → ℕ → Option Seat
seat_of r k =
    option_and_then
    (λ (n : Numbered). option_and_then (λ c. slice_get (seats_of c) n.number)
    (slice_get r.instances.items n.instance))
    (slice_get r.jobs.items k)

-- its step, with its name
abbrev pub named_step_of : OpenRun → ℕ → Option (Name × Step)
named_step_of r k =
    option_and_then
    (λ c. option_and_then (λ (s : Seat). slice_get (steps_of (run_view r.run) c) s.step)
    (seat_of r k))
    (instance_of r k)

abbrev pub step_of : OpenRun → ℕ → Option Step
step_of r k = option_map (λ s. s.1) (named_step_of r k)

-- at which stage it is: settled, where its instance has ended
abbrev pub stage_in : Numbered → code.Instance → Option Stage
stage_in n c = by c.open.items
  where
    by : List Open → Option Stage
    by [] = Some stage.Settled
    by (o ∷ os) = option_map (λ (s : Seat). s.stage) (slice_get o.seats.seats n.number)

abbrev pub stage_of : OpenRun → ℕ → Option Stage
stage_of r k =
    option_and_then (λ (n : Numbered). option_and_then (stage_in n)
    (slice_get r.instances.items n.instance))
    (slice_get r.jobs.items k)

-- a try at this activity and attempt is out
abbrev pub is_at : Option Stage → ℕ → ℕ → Bool
is_at (Some (stage.Out b u)) a t = b == a && u == t
is_at x a t = false

abbrev pub step_number_of : OpenRun → ℕ → Option ℕ
step_number_of r k = option_map (λ (s : Seat). s.step) (seat_of r k)

-- job n of instance i has number k in the run, where there is one
abbrev pub AreInRun : OpenRun → ℕ → Option ℕ → Option ℕ → Type 0
AreInRun r i None o = o ≡ None
AreInRun r i (Some n) None = ⊥
AreInRun r i (Some n) (Some k) = slice_get (numbers_of r) k ≡ Some (i, n)

-- job k is of an open instance
pub record IsOfOpen (r : OpenRun) (k : ℕ) : Type 0 where
  pub job : Numbered
  pub there : slice_get r.jobs.items k ≡ Some job
  pub itself : code.Instance
  pub instance : slice_get r.instances.items job.instance ≡ Some itself
  pub opened : Open
  pub is_open : itself.open.items ≡ opened ∷ []

abbrev pub is_service : Activity → Bool
is_service (service n) = true
is_service (nested f) = false
