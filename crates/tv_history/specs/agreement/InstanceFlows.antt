-- Which flow an instance of a meaning is of, and which step of it a name stands for.
use Rattle.std.specs.Prelude.{Option, Some, [], find, option_and_then, ◌∷◌, ◌≡◌}
use Rattle.tv_value.specs.Orders.{named, same_job}
use Rattle.tv_value.specs.Values.{JobName, Name}
use Rattle.tv_flow.specs.Flows.{Document, Flow, Step}
use Rattle.tv_model.specs.Jobs.{Job}
use Rattle.tv_model.specs.Made.{Meaning}

-- the main instance is of the main flow, each other of the flow that its job opens
abbrev pub instance_flow : Document → Meaning → JobName → Option Name
instance_flow d m [] = Some d.main
instance_flow d m (k ∷ I) = option_and_then (λ (j : Job). j.opens)
    (find (λ j. same_job (k ∷ I) j.name) m.jobs)

-- the step of this name in the flow of this instance
pub record StandsIn (d : Document) (m : Meaning) (I : JobName) (n : Name) : Type 0 where
  pub flow_name : Name
  pub flow : Flow
  pub step : Step
  pub of_instance : instance_flow d m I ≡ Some flow_name
  pub is_flow : named flow_name d.flows ≡ Some flow
  pub is_step : named n flow.steps ≡ Some step
