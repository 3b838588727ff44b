-- The constants of a flow, by the numbers of its steps' ports and of its outputs.
use Rattle.std.specs.Prelude.{ℕ, List, map, Option, Some, None, option_map, option_and_then, slice_get}
use Rattle.tv_value.specs.Values.{Name, Value}
use Rattle.tv_value.specs.Views.{view}
use Rattle.tv_value.specs.declared.value.Value.{Value as Held}
use Rattle.tv_flow.specs.Flows.{Feed, link, merge, constant, Flow, Step}
use Rattle.tv_binding.specs.declared.constants.Constants.{Constants}

-- the value of a feed that is a constant
abbrev pub constant_in : Feed → Option Value
constant_in (link l) = None
constant_in (merge ls) = None
constant_in (constant v) = Some v

-- of each port of a step, and of each output of a flow
abbrev pub port_constants : Name × Step → List (Option Value)
port_constants s = map (λ i. constant_in i.1.from) s.1.inputs

abbrev pub output_constants : Flow → List (Option Value)
output_constants f = map (λ o. constant_in o.1) f.outputs

pub record FlowConstants : Type 0 where
  pub ports : List (List (Option Value))
  pub outputs : List (Option Value)

abbrev pub flow_constants : Flow → FlowConstants
flow_constants f = record { ports = map port_constants f.steps; outputs = output_constants f }

-- what a list of optional things has at a number, where it has something there
abbrev pub there : {A : Type 0} → List (Option A) → ℕ → Option A
there os n = option_and_then (λ o. o) (slice_get os n)

abbrev pub constant_of_port : FlowConstants → ℕ → ℕ → Option Value
constant_of_port k s p = option_and_then (λ os. there os p) (slice_get k.ports s)

abbrev pub constant_of_output : FlowConstants → ℕ → Option Value
constant_of_output k n = there k.outputs n

-- the values of cells
abbrev pub cell_values : List (Option Held) → List (Option Value)
cell_values cs = map (option_map view) cs

abbrev pub constants_view : Constants → FlowConstants
constants_view k = record { ports = map cell_values k.ports; outputs = cell_values k.outputs }
