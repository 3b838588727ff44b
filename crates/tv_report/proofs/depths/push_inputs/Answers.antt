use Rattle.std.proofs.Common.{◌≡◌, ap, sym, ◌∙◌, length, min, string_bytes}
use Rattle.std.proofs.Math.ListN.{get_or-map}
use Rattle.std.proofs.lemmas.List.{length-map}
use Rattle.tv_lemmas.proofs.Numbers.{min-first, min-second}
use Rattle.tv_value.specs.Values.{Name}
use Rattle.tv_flow.specs.Flows as spec
use Rattle.tv_flow.specs.Views.{each, step_input_view}
use Rattle.tv_flow.specs.declared.document.StepInput.{StepInput}
use Rattle.tv_report.specs.PlanLines.{planned_input}
use Rattle.tv_report.proofs.Plans.{grown-pair, grown-pairs}
use Rattle.tv_report.proofs.depths.push_inputs.Goals as goal

abbrev seen : Name × StepInput → Name × spec.StepInput
seen i = (i.0, step_input_view i.1)

pub loop-index-preserved : goal.loop-index-preserved
loop-index-preserved c =
    let i = c.loop-index.index in
    let xs = c.args.inputs.now in
    let ys = c.args.delivered.now in
    let x = c.index-inputs-index.result in
    let e : c.shorter-both.result ≡ min (length (each step_input_view xs)) (length ys) = c.shorter-both.ensures ∙ ap (λ n. min n (length ys)) (sym (length-map xs seen)) in
    grown-pair (planned_input c.args.flow.now c.args.step.now) (string_bytes c.args.text.now) (string_bytes c.loop-index.text) (string_bytes c.push_input.new.text) (each step_input_view xs) ys i (seen x) c.index-delivered-index.result
    (min-first i c.shorter-both.result (length (each step_input_view xs)) (length ys) e c.loop-index-test.true)
    (min-second i c.shorter-both.result (length (each step_input_view xs)) (length ys) e c.loop-index-test.true)
    (ap seen c.index-inputs-index.is ∙ sym (get_or-map seen xs i x)) c.index-delivered-index.is c.loop-index.invariant c.in_ok-push_input.ensures

pub returns : goal.returns
returns c =
    let xs = c.args.inputs.now in
    let ys = c.args.delivered.now in
    grown-pairs (planned_input c.args.flow.now c.args.step.now) (string_bytes c.args.text.now) (string_bytes c.loop-index.text) (each step_input_view xs) ys c.loop-index.index c.shorter-both.result
    (c.shorter-both.ensures ∙ ap (λ n. min n (length ys)) (sym (length-map xs seen))) c.loop-index-test.false c.loop-index.invariant
