-- A step's plan by the table of its flow.
use Rattle.std.specs.Prelude.{◌≡◌, ℕ, List, map, Option, Some}
use Rattle.tv_flow.specs.Flows.{Step, Flow}
use Rattle.tv_value.specs.Values.{Name}
use Rattle.tv_strategy.specs.Measures.{strategy_depth}
use Rattle.tv_model.specs.instance.CheckedDepths.{port_depth, flow_depths}
use Rattle.tv_model.specs.instance.Ranks.{ranked}
use Rattle.tv_model.specs.instance.Steps.{strategy_of}
use Rattle.tv_naming.specs.Numbers.{position}
use Rattle.tv_check.specs.Plans as plan
use Rattle.tv_check.specs.Tables.{IsMeasured, table_depth, table_mismatch}

-- with this rank, and this depth of its strategy
abbrev pub planned : Flow → List (Option ℕ) → ℕ → ℕ → Step → plan.StepPlan
planned f ls rank depth s =
    record {
      rank = rank;
      tree = strategy_of s;
      depth = depth;
      delivered = map (λ i. (i.0, table_depth f ls i.1.from)) s.inputs;
      mismatch = map (λ i. (i.0, table_mismatch f ls i.1)) s.inputs;
    }

-- a flow that was measured, with the ranks of its steps: the table has the depth of each step's strategy
pub record IsPlanned (f : Flow) (ls : List (Option ℕ)) (outputs : List (Name × ℕ))
    (ranks : List ℕ) : Type 0 where
  pub measured : IsMeasured f ls outputs
  pub levels_are : ls ≡ map (λ s. Some (strategy_depth (port_depth f.inputs (flow_depths f) s.1)
      (strategy_of s.1))) f.steps
  pub ranks_are : ranks ≡ map (λ s. position s.0 (ranked f.steps)) f.steps
