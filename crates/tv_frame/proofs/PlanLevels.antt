-- The depths that the plans of a flow's steps have are the levels of their iterations.
use Rattle.std.specs.Prelude.{◌≡◌, ℕ, ◌≤◌, List, length, map, take}
use Rattle.std.proofs.Common.{ap, sym, ◌∙◌}
use Rattle.std.proofs.lemmas.List.{take_all}
use Rattle.std.proofs.lemmas.Simd.{map-map}
use Rattle.tv_flow.specs.Flows.{Flow}
use Rattle.tv_flow.specs.Views.{flow_view}
use Rattle.tv_check.specs.PlanViews.{step_plan_view}
use Rattle.tv_check.specs.Plans as plans
use Rattle.tv_check.specs.declared.plans.FlowPlan.{FlowPlan}
use Rattle.tv_check.specs.declared.plans.StepPlan.{StepPlan}
use Rattle.tv_frame.specs.Tables.{levels_in}
use Rattle.tv_frame.proofs.Keeping.{levels-are}
use Rattle.tv_frame.proofs.TableLemmas.{plan-wired, steps-are}
use Rattle.tv_frame.proofs.Lists.{same-maps}

pub planned-levels :
    (p : FlowPlan) (xs : List StepPlan) (n : ℕ) → xs ≡ p.steps → length xs ≤ n
    → map (λ (q : StepPlan). q.depth) (take n xs) ≡ map (λ s. levels_in (flow_view p.flow) s.0) (flow_view p.flow).steps
planned-levels p xs n e l =
    ap (map (λ (q : StepPlan). q.depth)) (take_all n xs l ∙ e)
    ∙ sym (map-map (λ (q : plans.StepPlan). q.depth) step_plan_view p.steps)
    ∙ ap (map (λ (q : plans.StepPlan). q.depth)) (steps-are p)
    ∙ map-map (λ (q : plans.StepPlan). q.depth) (plans.step_plan flow) flow.steps
    ∙ same-maps (λ s. (plans.step_plan flow s).depth) (λ s. levels_in flow s.0) flow.steps
    (λ k s at. sym (levels-are flow (plan-wired p) k s at))
  where
    flow : Flow
    flow = flow_view p.flow
