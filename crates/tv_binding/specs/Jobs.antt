-- The values that a job binds and those of a flow's outputs, each where it is found.
use Rattle.std.specs.Prelude.{ℕ, ◌-◌, List, [], map, Option, option_map, option_and_then, slice_get}
use Rattle.std.specs.Option.{option_map_or}
use Rattle.tv_value.specs.Nested.{Place}
use Rattle.tv_value.specs.Values.{Name, Value}
use Rattle.tv_value.specs.Views.{strategy_view}
use Rattle.tv_flow.specs.declared.document.StepInput.{StepInput}
use Rattle.tv_strategy.specs.Conditions.{number_of}
use Rattle.tv_strategy.specs.Splits.{split}
use Rattle.tv_naming.specs.Naming.{numbered}
use Rattle.tv_check.specs.declared.feeds.NumberedFeed.{NumberedFeed}
use Rattle.tv_check.specs.declared.ports.Port.{Port}
use Rattle.tv_binding.specs.Delivered.{wrapped_value}
use Rattle.tv_binding.specs.Found.{Known, all_found, feed_found}
use Rattle.tv_binding.specs.Constants.{FlowConstants, constant_of_port, constant_of_output}
use Rattle.tv_binding.specs.declared.jobs.StepPorts.{StepPorts}

-- how often the value of a port is wrapped: as often as the depth that it takes exceeds the delivered one
abbrev pub wraps : List (Name × StepInput) → List (Name × ℕ) → ℕ → ℕ
wraps inputs delivered n =
    option_map_or (λ i. i.1.depth) (slice_get inputs n) 0
    - option_map_or (λ d. d.1) (slice_get delivered n) 0

-- the value of the n-th port, where the places of the strategy's leaves are these
abbrev pub port_found : Known → FlowConstants → StepPorts → List (Name × Place) → ℕ × Port
    → Option Value
port_found k cs s places (n, p) =
    option_and_then
    (λ x. option_map (wrapped_value (wraps s.inputs.now s.delivered.now n))
    (feed_found k p.feed (constant_of_port cs s.number n) x.1))
    (slice_get places p.leaf)

-- the values that the job at a place of a step's iteration binds, in the order of the ports
abbrev pub job_found : Known → FlowConstants → StepPorts → Place → Option (List Value)
job_found k cs s q =
    all_found
    (map (port_found k cs s (split (number_of s.mismatch.now) (strategy_view s.tree.now) q))
    (numbered 0 s.ports.now))

-- the values of a flow's outputs
abbrev pub output_found : Known → FlowConstants → ℕ × NumberedFeed → Option Value
output_found k cs (n, f) = feed_found k f (constant_of_output cs n) []

abbrev pub outputs_found : Known → FlowConstants → List NumberedFeed → Option (List Value)
outputs_found k cs fs = all_found (map (output_found k cs) (numbered 0 fs))
