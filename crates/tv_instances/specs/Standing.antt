-- How an open instance stands: a frame that keeps what it was told, and for each job that it knows a seat.
use Rattle.std.specs.Prelude.{List, [], map, ℕ, ◌≡◌}
use Rattle.tv_value.specs.Nested.{Place}
use Rattle.tv_value.specs.Values.{Value}
use Rattle.tv_flow.specs.Flows.{Document}
use Rattle.tv_check.specs.declared.plans.FlowPlan.{FlowPlan}
use Rattle.tv_intake.specs.Intaken.{known_jobs}
use Rattle.tv_outputs.specs.Known.{Nodes}
use Rattle.tv_frame.specs.FramingViews.{View}
use Rattle.tv_frame.specs.Kept.{Keeps}
use Rattle.tv_frame.specs.Tables.{levels_in}
use Rattle.tv_seats.specs.Seats.{Seat}
use Rattle.tv_forest.specs.seats.GoingOn.{AreNewSeats}
use Rattle.tv_instances.specs.Levels.{AreKept}
use Rattle.tv_instances.specs.Quiet.{AreQuiet}
use Rattle.tv_instances.specs.declared.open.Open.{Open}

-- a job by its step's number and its place
abbrev pub job_of : Seat → ℕ × Place
job_of s = (s.step, s.place)

-- an instance of the plan's flow, told what the view says
pub record IsOpen (d : Document) (plan : FlowPlan) (pool : Nodes) (o : Open)
    (v : View) : Type 0 where
  pub keeps : Keeps d.flows plan pool o.frame v
  pub known : map job_of o.seats.seats ≡ known_jobs o.frame.intakes
  pub levels : o.seats.levels ≡ map (λ s. levels_in v.flow s.0) v.flow.steps
  -- the steps that are passed are quiet
  pub quiet : AreQuiet v o.seats.seats o.turns.positions.items o.turns.from
  pub kept : AreKept v o.levels.settled

-- of some flow
abbrev pub IsSome : Open → Type 0
IsSome o = (d : Document) × (plan : FlowPlan) × (pool : Nodes) × (v : View) × IsOpen d plan pool o v

-- told nothing, on these inputs: all jobs wait
pub record StartsOpen (d : Document) (plan : FlowPlan) (values : List Value) (pool : Nodes)
    (o : Open) : Type 0 where
  pub view : View
  pub untold : view.events ≡ []
  pub inputs : map (λ x. x.1) view.inputs ≡ values
  pub is_open : IsOpen d plan pool o view
  pub new : AreNewSeats view.flow.steps o.seats.seats
