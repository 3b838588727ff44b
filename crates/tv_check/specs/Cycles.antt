-- Flows that nest in themselves or too deep, and steps that come before themselves.
use Rattle.std.specs.Prelude.{ℕ, zero, suc, List, [], map, length, Bool, ◌||◌, nat_lt, filter_map, flat_map, Option, Some, None}
use Rattle.std.specs.List.{list_any}
use Rattle.std.specs.Option.{option_map_or}
use Rattle.tv_value.specs.Values.{Name}
use Rattle.tv_value.specs.Orders.{same_name, named}
use Rattle.tv_value.specs.Activities.{Activity, service, nested}
use Rattle.tv_flow.specs.Flows.{Flow, Document}
use Rattle.tv_naming.specs.graphs.Graphs.{greatest}
use Rattle.tv_model.specs.instance.Ranks.{earlier_steps}
use Rattle.tv_naming.specs.Faulty.{flow_cycle, link_cycle, too_deep, at_flow, at_step, CheckComplaint, plainly, with_numbers}
use Rattle.tv_naming.specs.Naming.{complain_if}
use Rattle.tv_model.specs.instance.Nesting.{nesting_limit}

-- whether n reaches m by so many edges or fewer, and at least one
module _ (next : Name → List Name) where
  abbrev pub reaches : ℕ → Name → Name → Bool
  reaches zero n m = list_any (same_name m) []
  reaches (suc k) n m = list_any (λ o. same_name m o || reaches k o m) (next n)

abbrev pub opened_flow : Activity → Option Name
opened_flow (service s) = None
opened_flow (nested f) = Some f

-- the flows that the activities of a flow open
abbrev pub opened_flows : Flow → List Name
opened_flows f = flat_map (λ s. filter_map opened_flow s.1.activities) f.steps

abbrev pub flows_in : Document → Name → List Name
flows_in d f = option_map_or opened_flows (named f d.flows) []

-- the steps that come directly before a step
abbrev pub steps_before : Flow → Name → List Name
steps_before f s = option_map_or earlier_steps (named s f.steps) []

-- one, and the greatest nesting of the flows that it opens; `levels` bounds how deep it is looked into
abbrev pub nesting : Document → ℕ → Name → ℕ
nesting d zero f = 1
nesting d (suc levels) f = suc (greatest (map (nesting d levels) (flows_in d f)))

-- of all flows, in their order
abbrev pub nestings : Document → List ℕ
nestings d = map (λ f. nesting d (length d.flows) f.0) d.flows

-- first the flows that reach themselves, and, where there are none, those that nest too deep
abbrev pub cycle_complaints : Document → List CheckComplaint
cycle_complaints d = flat_map (λ f. complain_if (reaches (flows_in d) (length d.flows) f.0 f.0)
    (plainly flow_cycle (at_flow f.0))) d.flows

abbrev pub nesting_complaints : Document → List CheckComplaint
nesting_complaints d =
    flat_map (λ f. let n = nesting d (length d.flows) f.0 in complain_if (nat_lt nesting_limit n)
    (with_numbers too_deep (at_flow f.0) n nesting_limit)) d.flows

-- the steps of a flow that reach themselves by links and by what they run after
abbrev pub flow_link_cycles : Name → Flow → List CheckComplaint
flow_link_cycles n f = flat_map (λ s. complain_if (reaches (steps_before f) (length f.steps) s.0
    s.0) (plainly link_cycle (at_step n s.0))) f.steps

-- and so flow by flow
abbrev pub link_cycle_complaints : Document → List CheckComplaint
link_cycle_complaints d = flat_map (λ f. flow_link_cycles f.0 f.1) d.flows
