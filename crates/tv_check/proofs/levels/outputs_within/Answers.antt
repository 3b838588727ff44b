use Rattle.std.proofs.Common.{◌+◌}
use Rattle.std.proofs.lemmas.Result.{err_from_is_err_and}
use Rattle.tv_naming.specs.Faulty.{at_output}
use Rattle.tv_check.specs.Depthwise.{past_limit}
use Rattle.tv_naming.proofs.Told.{got-in, stops-next}
use Rattle.tv_check.proofs.levels.outputs_within.Goals as goal

pub returns-in_err-within : goal.returns-in_err-within
returns-in_err-within c =
    let p = err_from_is_err_and c.from_residual.result c.from_residual.ensures.1 in
    let i = c.loop-port.port-index in
    let x = c.loop-port-item.result in
    rw (p.1, p.2) (stops-next (λ o. past_limit (at_output c.args.name.now c.args.step_name.now o.0) (o.1 + c.args.level)) c.args.outputs.now i x c.in_err-within.field-0.0 (got-in _ _ i x c.as_slice-port-items.ensures c.loop-port-test.true c.loop-port-item.is) c.loop-port.invariant c.in_err-within.ensures)
