-- The input ports of a step by numbers: what feeds each, the levels that it iterates, and which leaf of the strategy it is.
use Rattle.std.specs.Prelude.{ℕ, suc, ◌-◌, List, [], ◌∷◌, map, if◌then◌else◌}
use Rattle.tv_value.specs.Values.{Name}
use Rattle.tv_value.specs.Orders.{same_name}
use Rattle.tv_flow.specs.Flows.{StepInput, Step, Flow}
use Rattle.tv_strategy.specs.Measures.{leaf_names}
use Rattle.tv_model.specs.instance.CheckedDepths.{feed_depth, flow_depths}
use Rattle.tv_model.specs.instance.Steps.{strategy_of}
use Rattle.tv_check.specs.declared.ports.Port.{Port}
use Rattle.tv_check.specs.Feeds.{feed_numbered}

-- where a name stands first among the leaves, their number where it doesn't
abbrev pub leaf_number : Name → List Name → ℕ
leaf_number n [] = 0
leaf_number n (m ∷ ms) = if same_name n m then 0 else suc (leaf_number n ms)

-- the delivered depth of a port less the declared one
abbrev pub levels_of : Flow → StepInput → ℕ
levels_of f i = feed_depth f.inputs (flow_depths f) i.from - i.depth

-- a port among the leaves of a strategy
abbrev pub port_among : Flow → List Name → Name × StepInput → Port
port_among f leaves i = record {
  feed = feed_numbered f i.1.from;
  levels = levels_of f i.1;
  leaf = leaf_number i.0 leaves;
}

-- all of a step, in byte order of their names
abbrev pub ports_of : Flow → Step → List Port
ports_of f s = map (port_among f (leaf_names (strategy_of s))) s.inputs

-- the levels of all, with the ports' names
abbrev pub mismatches : Flow → Step → List (Name × ℕ)
mismatches f s = map (λ i. (i.0, levels_of f i.1)) s.inputs
