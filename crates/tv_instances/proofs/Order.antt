-- The steps of a flow by falling rank, as a frame has them.
use Rattle.std.specs.Prelude.{◌≡◌, ℕ, ◌<◌, List, Some, length, slice_get}
use Rattle.std.proofs.Common.{ap, subst, sym, ◌∙◌}
use Rattle.std.proofs.lemmas.List.{length-map}
use Rattle.std.proofs.lemmas.Option.{slice_get_within}
use Rattle.tv_value.specs.Values.{Name}
use Rattle.tv_flow.specs.Flows.{Flow}
use Rattle.tv_flow.specs.Views.{flow_view}
use Rattle.tv_naming.specs.Numbers.{position}
use Rattle.tv_naming.proofs.FormedParts.{steps-ascend}
use Rattle.tv_check.specs.PlanViews.{step_plan_view}
use Rattle.tv_check.specs.Plans as plans
use Rattle.tv_check.specs.declared.plans.FlowPlan.{FlowPlan}
use Rattle.tv_outputs.specs.Known.{Nodes}
use Rattle.tv_frame.specs.FramingViews.{View}
use Rattle.tv_frame.specs.declared.frame.Frame.{Frame}
use Rattle.tv_frame.specs.Kept.{Keeps}
use Rattle.tv_frame.proofs.Keeping.{kept-ranked}
use Rattle.tv_frame.proofs.TableLemmas.{steps-are}
use Rattle.tv_frame.specs.turns.FirstReady.{by_falling_rank}
use Rattle.tv_frame.proofs.turns.Ranks.{at-in, number-of, numbers-step}
use Rattle.tv_lemmas.proofs.Members.{in-slice}

-- a plan has as many steps as its flow
pub planned-many : (p : FlowPlan) → length (flow_view p.flow).steps ≡ length p.steps
planned-many p =
    sym (length-map (flow_view p.flow).steps (plans.step_plan (flow_view p.flow)))
    ∙ sym (ap length (steps-are p))
    ∙ length-map p.steps step_plan_view

module _ (flows : List (Name × Flow)) (plan : FlowPlan) (pool : Nodes) (f : Frame) (v : View) (kept : Keeps flows plan pool f v) where
  -- each of the order is a step
  pub ordered-low : (n k : ℕ) → slice_get (by_falling_rank v.flow) n ≡ Some k → k < length v.flow.steps
  ordered-low n k e =
      let rise = steps-ascend v.flow (kept-ranked flows plan pool f v kept).formed in
      let m = numbers-step v.flow.steps (λ s. position s.0 v.flow.steps) k (in-slice (by_falling_rank v.flow) n k e) in
      let at = at-in v.flow.steps m.0 m.1 in
      subst (λ i. i < length v.flow.steps) (sym (m.2 ∙ number-of v.flow.steps at.0 m.0 rise at.1))
      (slice_get_within v.flow.steps at.0 m.0 at.1)

  pub planned-low : (n k : ℕ) → slice_get (by_falling_rank v.flow) n ≡ Some k → k < length plan.steps
  planned-low n k e =
      subst (λ l. k < l) (ap (λ (g : Flow). length g.steps) kept.flow_is ∙ planned-many plan) (ordered-low n k e)
