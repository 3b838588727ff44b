-- The delivered depths of a flow, from its declared depths and strategies alone, step by step by rank.
use Rattle.std.specs.Prelude.{ℕ, suc, ◌+◌, ◌-◌, List, [], ◌∷◌, map, find, unwrap_or}
use Rattle.std.specs.Option.{option_map_or}
use Rattle.tv_value.specs.Values.{Name, Value}
use Rattle.tv_value.specs.DepthSets.{least_depth}
use Rattle.tv_value.specs.Orders.{same_name, named}
use Rattle.tv_flow.specs.Flows.{Link, input, output, Feed, link, merge, constant, Step, Flow}
use Rattle.tv_strategy.specs.Measures.{strategy_depth}
use Rattle.tv_model.specs.instance.Ranks.{ranked}
use Rattle.tv_model.specs.instance.Steps.{strategy_of}

-- a step with the delivered depths of its outputs
pub record StepDepths : Type 0 where
  pub step : Name
  pub outputs : List (Name × ℕ)

-- from the depths of the flow's inputs and of the steps so far
abbrev pub link_depth : List (Name × ℕ) → List StepDepths → Link → ℕ
link_depth given so_far (input x) = unwrap_or (named x given) 1
link_depth given so_far (output s p) =
    option_map_or (λ m. unwrap_or (named p m.outputs) 1) (find (λ m. same_name s m.step) so_far) 1

abbrev pub merged_depth : List ℕ → ℕ
merged_depth [] = 1
merged_depth (d ∷ ds) = suc d

abbrev pub constant_depth : Value → ℕ
constant_depth v = unwrap_or (least_depth v) 0

abbrev pub feed_depth : List (Name × ℕ) → List StepDepths → Feed → ℕ
feed_depth given so_far (link l) = link_depth given so_far l
feed_depth given so_far (merge ls) = merged_depth (map (link_depth given so_far) ls)
feed_depth given so_far (constant v) = constant_depth v

-- the levels that a port iterates
abbrev pub port_depth : List (Name × ℕ) → List StepDepths → Step → Name → ℕ
port_depth given so_far s p = option_map_or (λ i. feed_depth given so_far i.from - i.depth)
    (named p s.inputs) 0

abbrev pub step_depths : List (Name × ℕ) → List StepDepths → Name × Step → StepDepths
step_depths given so_far s =
    record {
      step = s.0;
      outputs = map (λ p. (
        p.0,
        strategy_depth (port_depth given so_far s.1) (strategy_of s.1)
            + p.1,
      )) s.1.outputs;
    }

abbrev pub steps_depths : List (Name × ℕ) → List StepDepths → List (Name × Step) → List StepDepths
steps_depths given so_far [] = so_far
steps_depths given so_far (s ∷ ss) = steps_depths given (step_depths given so_far s ∷ so_far) ss

-- all steps of a flow, the last first
abbrev pub flow_depths : Flow → List StepDepths
flow_depths flow = steps_depths flow.inputs [] (ranked flow.steps)

abbrev pub output_depths : Flow → List ℕ
output_depths flow = map (λ o. feed_depth flow.inputs (flow_depths flow) o.1) flow.outputs

-- the outputs of a flow with their delivered depths
abbrev pub measured_outputs : Flow → List (Name × ℕ)
measured_outputs flow = map (λ o. (o.0, feed_depth flow.inputs (flow_depths flow) o.1)) flow.outputs
