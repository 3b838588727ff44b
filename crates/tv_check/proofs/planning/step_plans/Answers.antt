use Rattle.std.proofs.Common.{◌∙◌, sym, ap, subst, get_or, None, IsSome, rules}
use Rattle.tv_value.specs.Values.{Name}
use Rattle.tv_flow.specs.Flows.{Step}
use Rattle.tv_flow.specs.Views.{flow_view, step_view}
use Rattle.tv_check.specs.PlanViews.{step_plan_view}
use Rattle.tv_check.specs.Plans.{step_plan}
use Rattle.tv_check.specs.Planned.{planned}
use Rattle.tv_check.proofs.Links.{each-get}
use Rattle.tv_check.proofs.PlanLemmas.{level-at, plan-at, push-mapped}
use Rattle.tv_naming.proofs.Told.{got-in}
use Rattle.tv_check.proofs.planning.step_plans.Goals as goal

pub known_level-depth-requires : goal.known_level-depth-requires
known_level-depth-requires c =
    let f = flow_view c.args.flow.now in
    let j = c.loop-number.number in
    let e = c.index-steps-number.result in
    let s : Name × Step = (e.0, step_view e.1) in
    let here = each-get step_view c.args.flow.now.steps j e (got-in _ _ j e c.as_slice-steps.ensures c.loop-number-test.true c.index-steps-number.is) in
    let there = ap (λ ls. get_or ls j None) c.as_slice-levels.ensures.value ∙ level-at f c.args.measured.now.levels.items c.args.measured.now.outputs c.args.ranks.now c.requires j s here in
    subst (λ o. IsSome o) (sym there) (search rules)

pub loop-number-preserved : goal.loop-number-preserved
loop-number-preserved c =
    let f = flow_view c.args.flow.now in
    let ls = c.args.measured.now.levels.items in
    let j = c.loop-number.number in
    let e = c.index-steps-number.result in
    let s : Name × Step = (e.0, step_view e.1) in
    let here = each-get step_view c.args.flow.now.steps j e (got-in _ _ j e c.as_slice-steps.ensures c.loop-number-test.true c.index-steps-number.is) in
    let depth = c.known_level-depth.result in
    let there = sym (ap (λ ms. get_or ms j None) c.as_slice-levels.ensures.value) ∙ c.known_level-depth.ensures in
    let rank = get_or c.args.ranks.now j 0 in
    let made = c.in_ok-step_plan.ensures ∙ ap (λ ms. planned f ms rank depth s.1) c.as_slice-levels.ensures.value ∙ plan-at f ls c.args.measured.now.outputs c.args.ranks.now c.requires j s here depth there in
    push-mapped step_plan_view (step_plan f) c.loop-number.plans.items c.push.new.self.items c.in_ok-step_plan.field-0 f.steps j s c.in_ok-push.ensures.items c.loop-number.invariant here made
