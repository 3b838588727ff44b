use Rattle.std.proofs.Common.{◌∙◌, sym, ap, subst, map, ℕ, ◌&&◌}
use Rattle.tv_value.specs.Values.{Name}
use Rattle.tv_flow.specs.declared.document.StepInput.{StepInput}
use Rattle.tv_flow.specs.Views.{flow_view}
use Rattle.tv_model.specs.instance.CheckedDepths.{measured_outputs}
use Rattle.tv_check.specs.Depthwise.{same_ports}
use Rattle.tv_check.specs.Measured.{IsWorked}
use Rattle.tv_check.proofs.NestedLemmas.{inputs-seen, ports-pointwise}
use Rattle.tv_check.proofs.nested.fits_flow.Goals as goal

pub returns-then-same_inputs : goal.returns-then-same_inputs
returns-then-same_inputs c =
    let v : Name × StepInput → Name × ℕ = λ i. (i.0, i.1.depth) in
    let is = c.args.step.now.inputs in
    let os = c.args.step.now.outputs in
    let f = flow_view c.args.flow.now in
    let same = ap (λ xs. same_ports xs f.inputs) (inputs-seen is) ∙ sym (c.same_inputs.ensures ∙ ap (λ xs. same_ports (map v xs) c.as_slice-in-Some.result.now) c.as_slice.ensures ∙ ap (λ ys. same_ports (map v is) ys) c.as_slice-in-Some.ensures) ∙ c.if-same_inputs.true in
    let worked = subst (λ w. IsWorked f w) c.in-Some.is c.requires.worked in
    c.eq.ensures ∙ ports-pointwise os c.in-Some.measured.outputs ∙ ap (same_ports os) worked.outputs_are ∙ sym (ap (λ b. b && same_ports os (measured_outputs f)) same)

pub returns-else-same_inputs : goal.returns-else-same_inputs
returns-else-same_inputs c =
    let v : Name × StepInput → Name × ℕ = λ i. (i.0, i.1.depth) in
    let is = c.args.step.now.inputs in
    let os = c.args.step.now.outputs in
    let f = flow_view c.args.flow.now in
    let same = ap (λ xs. same_ports xs f.inputs) (inputs-seen is) ∙ sym (c.same_inputs.ensures ∙ ap (λ xs. same_ports (map v xs) c.as_slice-in-Some.result.now) c.as_slice.ensures ∙ ap (λ ys. same_ports (map v is) ys) c.as_slice-in-Some.ensures) ∙ c.if-same_inputs.false in
    c.if-same_inputs.false ∙ sym (ap (λ b. b && same_ports os (measured_outputs f)) same)
