use Rattle.std.proofs.lemmas.Result.{err_from_is_err_and}
use Rattle.tv_lemmas.proofs.Lists.{get-map}
use Rattle.tv_value.specs.Values.{Name}
use Rattle.tv_flow.specs.declared.document.StepInput.{StepInput}
use Rattle.tv_flow.specs.Views.{each, flow_view, step_input_view}
use Rattle.tv_naming.specs.Faulty.{at_input}
use Rattle.tv_check.specs.Depthwise.{fed_complaints}
use Rattle.tv_check.specs.Tables.{known_steps}
use Rattle.tv_naming.proofs.Told.{got-in, silent-more, stops-next}
use Rattle.tv_check.proofs.levels.inputs_fed.Goals as goal

pub returns-in_err-fed : goal.returns-in_err-fed
returns-in_err-fed c =
    let p = err_from_is_err_and c.from_residual.result c.from_residual.ensures.1 in
    let i = c.loop-port.port-index in
    let x = c.loop-port-item.result in
    let f = flow_view c.args.flow.now in
    rw (p.1, p.2) (stops-next (λ j. fed_complaints f.inputs (known_steps f.steps c.args.levels.now) (at_input c.args.name.now c.args.step_name.now j.0) j.1.from) (each step_input_view c.args.inputs.now) i (x.0, step_input_view x.1) c.in_err-fed.field-0.0
    (get-map (λ (e : Name × StepInput). (e.0, step_input_view e.1)) c.args.inputs.now i x (got-in _ _ i x c.as_slice-port-items.ensures c.loop-port-test.true c.loop-port-item.is)) c.loop-port.invariant c.in_err-fed.ensures)

pub loop-port-preserved : goal.loop-port-preserved
loop-port-preserved c =
    let i = c.loop-port.port-index in
    let x = c.loop-port-item.result in
    let f = flow_view c.args.flow.now in
    silent-more (λ j. fed_complaints f.inputs (known_steps f.steps c.args.levels.now) (at_input c.args.name.now c.args.step_name.now j.0) j.1.from) (each step_input_view c.args.inputs.now) i (x.0, step_input_view x.1)
    (get-map (λ (e : Name × StepInput). (e.0, step_input_view e.1)) c.args.inputs.now i x (got-in _ _ i x c.as_slice-port-items.ensures c.loop-port-test.true c.loop-port-item.is)) c.loop-port.invariant c.in_ok-fed.ensures
