use Rattle.std.proofs.lemmas.Result.{err_from_is_err_and}
use Rattle.tv_lemmas.proofs.Lists.{get-map}
use Rattle.tv_value.specs.Values.{Name}
use Rattle.tv_flow.specs.declared.document.StepInput.{StepInput}
use Rattle.tv_flow.specs.Views.{each, step_input_view}
use Rattle.tv_naming.specs.AtViews.{at_view}
use Rattle.tv_check.specs.Depthwise.{round_complaints}
use Rattle.tv_naming.proofs.Told.{got-in, silent-more, stops-next}
use Rattle.tv_check.proofs.loops.inputs_fit.Goals as goal

pub returns-in_err-input_fits : goal.returns-in_err-input_fits
returns-in_err-input_fits c =
    let p = err_from_is_err_and c.from_residual.result c.from_residual.ensures.1 in
    let i = c.loop-port.port-index in
    let x = c.loop-port-item.result in
    rw (p.1, p.2) (stops-next (round_complaints (at_view c.args.at) c.args.outputs.now) (each step_input_view c.args.inputs.now) i (x.0, step_input_view x.1) c.in_err-input_fits.field-0.0
    (get-map (λ (e : Name × StepInput). (e.0, step_input_view e.1)) c.args.inputs.now i x (got-in _ _ i x c.as_slice-port-items.ensures c.loop-port-test.true c.loop-port-item.is)) c.loop-port.invariant c.in_err-input_fits.ensures)

pub loop-port-preserved : goal.loop-port-preserved
loop-port-preserved c =
    let i = c.loop-port.port-index in
    let x = c.loop-port-item.result in
    silent-more (round_complaints (at_view c.args.at) c.args.outputs.now) (each step_input_view c.args.inputs.now) i (x.0, step_input_view x.1)
    (get-map (λ (e : Name × StepInput). (e.0, step_input_view e.1)) c.args.inputs.now i x (got-in _ _ i x c.as_slice-port-items.ensures c.loop-port-test.true c.loop-port-item.is)) c.loop-port.invariant c.in_ok-input_fits.ensures
