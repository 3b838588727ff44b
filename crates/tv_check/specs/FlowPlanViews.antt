-- The plan that a flow's plan in the code stands for, and what a checked document keeps of its plans.
use Rattle.std.specs.Prelude.{◌≡◌, ◌<◌, ℕ, List, length, map}
use Rattle.std.specs.Coded.{Coded-set, coded_list, coded_ℕ, coded_bool, ×_prop, le_prop}
use Rattle.tv_flow.specs.Flows.{Document}
use Rattle.tv_flow.specs.Views.{flow_view}
use Rattle.tv_check.specs.declared.plans.FlowPlan.{FlowPlan}
use Rattle.tv_check.specs.PlanViews.{step_plan_view}
use Rattle.tv_naming.specs.Numbers.{position}
use Rattle.tv_check.specs.Plans as plan
use Rattle.tv_check.specs.Codes.{coded_flow_plan}

abbrev pub flow_plan_view : FlowPlan → plan.FlowPlan
flow_plan_view p = record {
  flow = flow_view p.flow;
  steps = map step_plan_view p.steps;
  outputs = p.outputs;
  wiring = p.wiring;
}

-- the document is accepted, and these are its main flow's number and the plans of its flows
abbrev pub IsChecked : Document → ℕ → List plan.FlowPlan → Type 0
IsChecked d main plans = plan.IsAccepted d
    × ((plans ≡ plan.flow_plans d) × ((main ≡ position d.main d.flows) × (main < length d.flows)))

pub IsChecked-prop : (d : Document) (main : ℕ) (plans : List plan.FlowPlan)
    → IsProp (IsChecked d main plans)
IsChecked-prop d main plans = ×_prop (Coded-set coded_bool _ _)
    (×_prop (Coded-set (coded_list coded_flow_plan) _ _) (×_prop (Coded-set coded_ℕ _ _) le_prop))
