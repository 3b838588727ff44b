use Rattle.std.proofs.Common.{◌≡◌, ap, sym, ◌∙◌, length, map, min, string_bytes}
use Rattle.std.proofs.Math.ListN.{get_or-map}
use Rattle.std.proofs.lemmas.List.{length-map}
use Rattle.tv_lemmas.proofs.Numbers.{min-first, min-second}
use Rattle.tv_value.specs.Values.{Name}
use Rattle.tv_flow.specs.Flows as spec
use Rattle.tv_flow.specs.Views.{each, step_view}
use Rattle.tv_flow.specs.declared.document.Step.{Step}
use Rattle.tv_check.specs.PlanViews.{step_plan_view}
use Rattle.tv_report.specs.PlanLines.{planned_step}
use Rattle.tv_report.proofs.Plans.{grown-pair, grown-pairs}
use Rattle.tv_report.proofs.depths.push_steps.Goals as goal

abbrev seen : Name × Step → Name × spec.Step
seen s = (s.0, step_view s.1)

pub loop-index-preserved : goal.loop-index-preserved
loop-index-preserved c =
    let i = c.loop-index.index in
    let xs = c.args.steps.now in
    let ys = c.args.plans.now in
    let x = c.index-steps-index.result in
    let y = c.index-plans-index.result in
    let both = c.shorter-both.result in
    let e : both ≡ min (length (each step_view xs)) (length (map step_plan_view ys)) =
    c.shorter-both.ensures ∙ ap (λ n. min n (length ys)) (sym (length-map xs seen)) ∙ ap (min (length (each step_view xs))) (sym (length-map ys step_plan_view)) in
    grown-pair (planned_step c.args.flow.now) (string_bytes c.args.text.now) (string_bytes c.loop-index.text) (string_bytes c.push_step.new.text) (each step_view xs) (map step_plan_view ys) i (seen x) (step_plan_view y)
    (min-first i both (length (each step_view xs)) (length (map step_plan_view ys)) e c.loop-index-test.true)
    (min-second i both (length (each step_view xs)) (length (map step_plan_view ys)) e c.loop-index-test.true)
    (ap seen c.index-steps-index.is ∙ sym (get_or-map seen xs i x))
    (ap step_plan_view c.index-plans-index.is ∙ sym (get_or-map step_plan_view ys i y))
    c.loop-index.invariant c.in_ok-push_step.ensures

pub returns : goal.returns
returns c =
    let xs = c.args.steps.now in
    let ys = c.args.plans.now in
    grown-pairs (planned_step c.args.flow.now) (string_bytes c.args.text.now) (string_bytes c.loop-index.text) (each step_view xs) (map step_plan_view ys) c.loop-index.index c.shorter-both.result
    (c.shorter-both.ensures ∙ ap (λ n. min n (length ys)) (sym (length-map xs seen)) ∙ ap (min (length (each step_view xs))) (sym (length-map ys step_plan_view)))
    c.loop-index-test.false c.loop-index.invariant
