-- What a run is meant to have in one of its instances: at the outputs and ports of its steps, and at the outputs of its flow.
use Rattle.std.specs.Option.{option_map_or}
use Rattle.std.specs.Prelude.{ℕ, ◌&&◌, Bool, List, [], ◌∷◌, Option, find, map, option_and_then, option_map, slice_get}
use Rattle.tv_value.specs.Orders.{named, same_job, same_name}
use Rattle.tv_value.specs.Values.{JobName, Name, Value}
use Rattle.tv_strategy.specs.Origins.{Traced, plain}
use Rattle.tv_model.specs.instance.Delivered.{StepMeaning}
use Rattle.tv_model.specs.Made.{Instance, Meaning}

-- it is step t of the instance I
abbrev pub is_step : JobName → Name → StepMeaning → Bool
is_step I t s = same_job I s.instance && same_name t s.step

abbrev pub step_at : Meaning → JobName → Name → Option StepMeaning
step_at m I t = find (is_step I t) m.steps

-- the value that its output o delivers
abbrev pub output_value : Meaning → JobName → Name → Name → Option Traced
output_value m I t o =
    option_and_then (λ s. option_map (λ d. d.value) (named o s.outputs)) (step_at m I t)

-- and the one that its port p takes, before it is iterated
abbrev pub port_value : Meaning → JobName → Name → Name → Option Traced
port_value m I t p =
    option_and_then (λ s. option_map (λ d. d.value) (named p s.inputs)) (step_at m I t)

-- a value for each output of the instance's flow: of the main one what the document gives, of another what the job that opens it
-- gives
abbrev pub flow_values : Meaning → JobName → List Value
flow_values m [] = map (λ o. plain o.1) m.outputs
flow_values m (k ∷ n) = option_map_or (λ j. j.result) (find (λ j. same_job (k ∷ n) j.name) m.jobs) []

-- the instance of that name, with what it gives
abbrev pub instance_at : Meaning → JobName → Option Instance
instance_at m I = find (λ i. same_job I i.name) m.instances

-- the value at the k-th output of its flow, with the origin of each node
abbrev pub flow_output_value : Meaning → JobName → ℕ → Option Traced
flow_output_value m I k =
    option_and_then (λ i. option_map (λ o. o.1) (slice_get i.outputs k)) (instance_at m I)
