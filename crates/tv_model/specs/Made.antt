-- What an instance has made: its outputs, its steps, and its jobs with what they open.
use Rattle.std.specs.Option.{option_map_or}
use Rattle.std.specs.Prelude.{List, Option, find, slice_get, unwrap_or, ℕ}
use Rattle.tv_value.specs.Nested.{list, no_trees}
use Rattle.tv_value.specs.Orders.{same_job}
use Rattle.tv_value.specs.Values.{JobName, Name, Value}
use Rattle.tv_flow.specs.Flows.{Feed, Flow, Link}
use Rattle.tv_strategy.specs.Iterations.{Iteration}
use Rattle.tv_strategy.specs.Origins.{Origin, Traced}
use Rattle.tv_model.specs.instance.Delivered.{Delivered, StepMeaning, feed_delivers, link_delivers}
use Rattle.tv_model.specs.instance.Steps.{endings_of, outputs_delivered}
use Rattle.tv_model.specs.Jobs.{Job}

-- an instance of a flow: its name, what it was given, and what it gives
pub record Instance : Type 0 where
  pub name : JobName
  pub flow : Flow
  pub inputs : List (Name × Value)
  pub outputs : List (Name × Traced)

-- of a flow on given inputs, with what is inside: its own instance first, steps by rank, jobs in job order
pub record Meaning : Type 0 where
  pub outputs : List (Name × Traced)
  pub instances : List Instance
  pub steps : List StepMeaning
  pub jobs : List Job

-- a job, with the meaning of the flow that it opens
pub record Opened : Type 0 where
  pub job : Job
  pub inside : Option Meaning

pub record Made : Type 0 where
  pub step : StepMeaning
  pub jobs : List Opened

abbrev pub step_in : Made → StepMeaning
step_in m = m.step

-- what a link, a feed and the ends of steps come to, from the steps so far
abbrev pub link_value : List (Name × Delivered) → List Made → Link → Delivered
link_value given made l = link_delivers step_in given made l

abbrev pub feed_value : List (Name × Delivered) → List Made → Feed → Delivered
feed_value given made f = feed_delivers step_in given made f

abbrev pub endings : List Made → List Name → List Origin
endings made ns = endings_of step_in made ns

-- the k-th output of the job of that name
abbrev pub result_of : List Opened → ℕ → JobName → Value
result_of os k n =
    option_map_or
    (λ o. unwrap_or (slice_get o.job.result k) (list tt no_trees))
    (find (λ o. same_job n o.job.name) os) (list tt no_trees)

abbrev pub delivered_outputs : JobName → Name → List Opened → ℕ → Iteration → ℕ → List (Name × ℕ)
    → List (Name × Delivered)
delivered_outputs instance s os levels it k ps = outputs_delivered instance s (result_of os) levels
    it k ps
