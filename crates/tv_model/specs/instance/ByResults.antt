-- One instance of a flow as a function of what its jobs give, by step and place: delivered values, iterations, outputs, jobs and
-- endings. No service is named.
use Rattle.std.specs.Prelude.{ℕ, suc, ◌+◌, List, [], ◌∷◌, ◌++◌, flat_map, map, slice_get, unwrap_or}
use Rattle.tv_value.specs.Nested.{Place, leaf, list, no_trees, nodes}
use Rattle.tv_value.specs.Values.{JobName, Name, Value}
use Rattle.tv_flow.specs.Flows.{Feed, Step, StepInput}
use Rattle.tv_strategy.specs.Iterations.{Iteration, iteration, job, passed}
use Rattle.tv_strategy.specs.Measures.{strategy_depth}
use Rattle.tv_strategy.specs.Origins.{Origin, Traced}
use Rattle.tv_strategy.specs.Outputs.{output_below}
use Rattle.tv_model.specs.instance.Delivered.{Delivered, Ported, StepMeaning, feed_delivers, at_port}
use Rattle.tv_model.specs.instance.Steps.{bound_values, endings_of, node_origin, port_iteration, port_mismatch, spot, strategy_of}

-- what each job of an instance gives: one value for each output of its step
abbrev pub Results : Type 0
Results = Name → Place → List Value

-- the k-th of the values that the job at a place gives
abbrev pub result_at : Results → Name → ℕ → Place → Value
result_at results s k q = unwrap_or (slice_get (results s q) k) (list tt no_trees)

-- a job that stands at an end of a step's iteration, with the values that it binds and the nodes that it waits for
pub record PlacedJob : Type 0 where
  pub step : Name
  pub place : Place
  pub inputs : List Traced
  pub waits : List Origin

-- a step of the instance, with its jobs in the order of their places
pub record InstanceStep : Type 0 where
  pub step : StepMeaning
  pub jobs : List PlacedJob

abbrev pub step_of : InstanceStep → StepMeaning
step_of f = f.step

-- the job at a node of a step's iteration; `before` is what it waits for beside its sources
abbrev pub jobs_at_node : Name → Step → List Origin → Place × Iteration → List PlacedJob
jobs_at_node n s before (q, leaf sources (job b)) =
    record { step = n; place = q; inputs = bound_values s b; waits = sources ++ before } ∷ []
jobs_at_node n s before (q, leaf sources (passed m e)) = []
jobs_at_node n s before (q, list sources ts) = []

-- ---- one step, by what its feeds deliver

-- each input port as it takes what its feed delivers
abbrev pub ports_on : (Feed → Delivered) → List (Name × StepInput) → List (Name × Ported)
ports_on delivers is = map (λ i. (i.0, at_port i.1.depth (delivers i.1.from))) is

abbrev pub iteration_on : (Feed → Delivered) → Step → Iteration
iteration_on delivers s = iteration (port_iteration (ports_on delivers s.inputs)) (strategy_of s)

abbrev pub levels_on : (Feed → Delivered) → Step → ℕ
levels_on delivers s = strategy_depth (port_mismatch (ports_on delivers s.inputs)) (strategy_of s)

-- its jobs wait for their sources and for the endings `before`
abbrev pub jobs_on : (Feed → Delivered) → List Origin → Name × Step → List PlacedJob
jobs_on delivers before (n, s) = flat_map (jobs_at_node n s before)
    (nodes (iteration_on delivers s))

module _ (instance : JobName) where
  -- the outputs of a step from the k-th on, each with its delivered depth; `gives` has the k-th output of the job at a place
  abbrev pub outputs_by : Name → (ℕ → Place → Value) → ℕ → Iteration → ℕ → List (Name × ℕ)
      → List (Name × Delivered)
  outputs_by s gives levels it k [] = []
  outputs_by s gives levels it k (p ∷ ps) = (
    p.0,
    record {
      depth = levels + p.1;
      value = output_below (spot instance s)
          (gives k) p.1 [] levels it;
    },
  )
      ∷ outputs_by s gives levels it (suc k) ps

  abbrev pub step_on : (ℕ → Place → Value) → (Feed → Delivered) → List Origin → Name × Step
      → StepMeaning
  step_on gives delivers before (n, s) =
      let it = iteration_on delivers s in
      record {
        instance = instance;
        step = n;
        inputs = ports_on delivers s.inputs;
        iteration = it;
        outputs = outputs_by n gives (levels_on delivers s) it 0 s.outputs;
        ending = map (node_origin instance n) (nodes it) ++ before;
      }

  -- ---- all steps

  module _ (results : Results) (given : List (Name × Delivered)) where
    -- a step, after those of less rank
    abbrev pub step_by : List InstanceStep → Name × Step → InstanceStep
    step_by made s =
        let delivers = feed_delivers step_of given made in
        let before = endings_of step_of made s.1.after in
        record {
          step = step_on (result_at results s.0) delivers before s;
          jobs = jobs_on delivers before s;
        }

    -- the steps by rank, the last first
    abbrev pub steps_by : List InstanceStep → List (Name × Step) → List InstanceStep
    steps_by made [] = made
    steps_by made (s ∷ ss) = steps_by (step_by made s ∷ made) ss

    -- the same steps from a list that has the last by rank first
    abbrev pub steps_from_last : List (Name × Step) → List InstanceStep
    steps_from_last [] = []
    steps_from_last (s ∷ ss) = step_by (steps_from_last ss) s ∷ steps_from_last ss

-- a list by rank turned round, in front of another
abbrev pub last_first : List (Name × Step) → List (Name × Step) → List (Name × Step)
last_first [] ts = ts
last_first (s ∷ ss) ts = last_first ss (s ∷ ts)
