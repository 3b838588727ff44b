-- One step of an instance: its strategy and iteration, the names of its nodes, its outputs and its ending.
use Rattle.std.specs.Prelude.{ℕ, suc, ◌+◌, List, [], ◌∷◌, ◌++◌, map, None, unwrap_or, flat_map, filter_map, if◌then◌else◌}
use Rattle.std.specs.Option.{option_map_or}
use Rattle.tv_value.specs.Nested.{leaf, list, Place}
use Rattle.tv_value.specs.Values.{Name, JobName, Value}
use Rattle.tv_value.specs.Orders.{named}
use Rattle.tv_value.specs.Strategies.{Strategy, port, cross, Strategies, no_strategies, strategy}
use Rattle.tv_flow.specs.Flows.{StepInput, Step}
use Rattle.tv_strategy.specs.Origins.{Origin, Traced, from_job, from_level}
use Rattle.tv_strategy.specs.Iterations.{Binding, job, passed, Iteration, walk}
use Rattle.tv_strategy.specs.Outputs.{output_below}
use Rattle.tv_model.specs.instance.Ranks.{is_among}
use Rattle.tv_model.specs.instance.Delivered.{Delivered, Ported, StepMeaning}

abbrev pub ports_of : List (Name × StepInput) → Strategies
ports_of [] = no_strategies
ports_of (i ∷ is) = strategy (port i.0) (ports_of is)

-- the default is one cross of all ports
abbrev pub strategy_of : Step → Strategy
strategy_of s = unwrap_or s.strategy (cross (ports_of s.inputs))

abbrev pub port_iteration : List (Name × Ported) → Name → Iteration
port_iteration ports p = option_map_or (λ d. walk p d.mismatch d.value) (named p ports)
    (leaf [] (job []))

abbrev pub port_mismatch : List (Name × Ported) → Name → ℕ
port_mismatch ports p = option_map_or (λ d. d.mismatch) (named p ports) 0

-- the bound values, in the order of the step's inputs
abbrev pub bound_values : Step → Binding → List Traced
bound_values s b = filter_map (λ i. named i.0 b) s.inputs

abbrev pub declared_depths : Step → List ℕ
declared_depths s = map (λ o. o.1) s.outputs

-- the node of a step's iteration at a place: a job, a list or a passed fault
abbrev pub spot : JobName → Name → Place → JobName
spot instance s q = instance ++ (s, q) ∷ []

abbrev pub node_origin : JobName → Name → Place × Iteration → Origin
node_origin instance s (q, leaf r (job b)) = from_job (spot instance s q)
node_origin instance s (q, leaf r (passed m e)) = from_level (spot instance s q) m r
node_origin instance s (q, list r ts) = from_level (spot instance s q) None r

-- what is known once the steps of these names have ended
module _ {M : Type 0} (step_in : M → StepMeaning) where
  abbrev pub endings_of : List M → List Name → List Origin
  endings_of made ns = flat_map (λ m. if is_among ns (step_in m).step then (step_in m).ending
      else []) made

-- each output with its delivered depth; `gives` says what the job of a name gives at the k-th output
abbrev pub outputs_delivered : JobName → Name → (ℕ → JobName → Value) → ℕ → Iteration → ℕ
    → List (Name × ℕ) → List (Name × Delivered)
outputs_delivered instance s gives levels it k [] = []
outputs_delivered instance s gives levels it k (p ∷ ps) = (
  p.0,
  record {
    depth = levels + p.1;
    value = output_below (spot instance s) (λ q. gives k (spot instance s q)) p.1 [] levels it;
  },
)
    ∷ outputs_delivered instance s gives levels it (suc k) ps
