-- What the check works out for each step and flow, beside saying that the document is accepted.
use Rattle.std.specs.Prelude.{◌≡◌, ℕ, ◌-◌, List, map, Bool, true}
use Rattle.std.specs.Option.{is_none}
use Rattle.tv_value.specs.Values.{Name}
use Rattle.tv_value.specs.Strategies.{Strategy}
use Rattle.tv_flow.specs.Flows.{Step, Flow, Document}
use Rattle.tv_strategy.specs.Measures.{strategy_depth}
use Rattle.tv_model.specs.instance.Ranks.{ranked}
use Rattle.tv_model.specs.instance.Steps.{strategy_of}
use Rattle.tv_model.specs.instance.CheckedDepths.{feed_depth, port_depth, flow_depths, measured_outputs}
use Rattle.tv_check.specs.Passes.{checked}
use Rattle.tv_naming.specs.Numbers.{position}
use Rattle.tv_check.specs.Wirings.{wiring}
use Rattle.tv_check.specs.declared.wiring.Wiring.{Wiring}

pub record StepPlan : Type 0 where
  pub rank : ℕ
  -- the default cross written out
  pub tree : Strategy
  -- of the strategy
  pub depth : ℕ
  -- the delivered depth and the mismatch of each input port
  pub delivered : List (Name × ℕ)
  pub mismatch : List (Name × ℕ)

pub record FlowPlan : Type 0 where
  pub flow : Flow
  -- in the order of the flow's steps
  pub steps : List StepPlan
  -- the delivered depth of each output
  pub outputs : List (Name × ℕ)
  -- what feeds each port and output, and what waits for each step, by numbers
  pub wiring : Wiring

abbrev pub step_plan : Flow → Name × Step → StepPlan
step_plan f (n, s) =
    record {
      rank = position n (ranked f.steps);
      tree = strategy_of s;
      depth = strategy_depth (port_depth f.inputs (flow_depths f) s) (strategy_of s);
      delivered = map (λ i. (i.0, feed_depth f.inputs (flow_depths f) i.1.from)) s.inputs;
      mismatch = map (λ i. (i.0, feed_depth f.inputs (flow_depths f) i.1.from - i.1.depth))
          s.inputs;
    }

abbrev pub flow_plan : Flow → FlowPlan
flow_plan f = record {
  flow = f;
  steps = map (step_plan f) f.steps;
  outputs = measured_outputs f;
  wiring = wiring f;
}

-- the plans of all flows, in their order
abbrev pub flow_plans : Document → List FlowPlan
flow_plans d = map (λ f. flow_plan f.1) d.flows

-- a document that the check accepts once the services are there that it names
abbrev pub is_accepted : Document → Bool
is_accepted d = is_none (checked (λ n. true) d)

abbrev pub IsAccepted : Document → Type 0
IsAccepted d = is_accepted d ≡ true
