use Rattle.std.specs.Prelude.{◌^◌}
use Rattle.std.proofs.Common.{◌<◌, ap, sym, subst, length}
use Rattle.std.proofs.lemmas.Option.{get_or_from_slice_get, slice_get_within}
use Rattle.tv_value.specs.Values.{Name}
use Rattle.tv_flow.specs.Flows.{Step}
use Rattle.tv_flow.specs.Views.{flow_view, step_view}
use Rattle.tv_strategy.specs.Measures.{leaf_names}
use Rattle.tv_check.proofs.Links.{each-get}
use Rattle.tv_naming.proofs.Told.{got-in}
use Rattle.tv_check.specs.Ports.{ports_of}
use Rattle.tv_check.proofs.Counting.{image-more}
use Rattle.tv_check.specs.PlanViews.{step_plan_view}
use Rattle.tv_check.specs.Plans.{step_plan}
use Rattle.tv_check.proofs.Wired.{leaves-few, same-at}
use Rattle.tv_check.proofs.planning.ports_by_steps.Goals as goal

pub ports_of-requires-clause-few : goal.ports_of-requires-clause-few
ports_of-requires-clause-few c =
    let f = flow_view c.args.flow.now in
    let j = c.loop-number.number in
    let e = c.index-steps-number.result in
    let p = c.index-plans-number.result in
    let s : Name × Step = (e.0, step_view e.1) in
    let here = each-get step_view c.args.flow.now.steps j e (got-in _ _ j e c.as_slice-steps.ensures c.loop-number-test.true c.index-steps-number.is) in
    let plan = same-at step_plan_view (step_plan f) c.args.plans.now f.steps c.requires.plans j p s c.index-plans-number.is here in
    subst (λ t. length (leaf_names t) < 2 ^ 32) (sym (ap (λ q. q.tree) plan)) (leaves-few f c.requires.formed c.requires.accepted j s here)

pub ports_of-requires-clause-tree : goal.ports_of-requires-clause-tree
ports_of-requires-clause-tree c =
    let f = flow_view c.args.flow.now in
    let j = c.loop-number.number in
    let e = c.index-steps-number.result in
    let p = c.index-plans-number.result in
    let s : Name × Step = (e.0, step_view e.1) in
    let here = each-get step_view c.args.flow.now.steps j e (got-in _ _ j e c.as_slice-steps.ensures c.loop-number-test.true c.index-steps-number.is) in
    let plan = same-at step_plan_view (step_plan f) c.args.plans.now f.steps c.requires.plans j p s c.index-plans-number.is here in
    ap (λ q. q.tree) plan

pub ports_of-requires-clause-mismatch : goal.ports_of-requires-clause-mismatch
ports_of-requires-clause-mismatch c =
    let f = flow_view c.args.flow.now in
    let j = c.loop-number.number in
    let e = c.index-steps-number.result in
    let p = c.index-plans-number.result in
    let s : Name × Step = (e.0, step_view e.1) in
    let here = each-get step_view c.args.flow.now.steps j e (got-in _ _ j e c.as_slice-steps.ensures c.loop-number-test.true c.index-steps-number.is) in
    let plan = same-at step_plan_view (step_plan f) c.args.plans.now f.steps c.requires.plans j p s c.index-plans-number.is here in
    ap (λ q. q.mismatch) plan

pub loop-number-preserved : goal.loop-number-preserved
loop-number-preserved c =
    let f = flow_view c.args.flow.now in
    let j = c.loop-number.number in
    let e = c.index-steps-number.result in
    let s : Name × Step = (e.0, step_view e.1) in
    let here = each-get step_view c.args.flow.now.steps j e (got-in _ _ j e c.as_slice-steps.ensures c.loop-number-test.true c.index-steps-number.is) in
    image-more (λ s. ports_of f s.1) f.steps c.loop-number.ports.items c.push.new.self.items j s c.in_ok-ports_of.field-0 (slice_get_within f.steps j s here) (sym (get_or_from_slice_get f.steps j s s here)) c.loop-number.invariant c.in_ok-push.ensures.items c.in_ok-ports_of.ensures
