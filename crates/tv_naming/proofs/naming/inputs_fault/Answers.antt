use Rattle.tv_naming.specs.Faulty.{plainly, no_such_port, at_input}
use Rattle.std.proofs.Common.{◌∙◌, ap, sym, refl, Some}
use Rattle.tv_flow.specs.Views.{flow_view, feed_view, step_input_view}
use Rattle.tv_naming.proofs.Firsts.{skipped, stopped, ended, links-quiet, links-told}
use Rattle.tv_naming.proofs.naming.inputs_fault.Goals as goal

pub loop-port-init : goal.loop-port-init
loop-port-init c = rw c.as_slice-port-items.ensures refl

pub returns-then-not-is_fed : goal.returns-then-not-is_fed
returns-then-not-is_fed c =
    stopped _ (λ e. (e.0, step_input_view e.1)) c.as_slice-port-items.result.now c.loop-port.port-index c.loop-port-item.result _ c.loop-port-test.true c.loop-port-item.is (ap Some (c.plain_fault.ensures ∙ ap (plainly no_such_port) c.in_ok-spot.ensures) ∙ links-told (flow_view c.args.flow.now) (at_input c.args.name.now c.args.step_name.now c.loop-port-item.result.0) (feed_view c.loop-port-item.result.1.from) (sym c.is_fed.ensures ∙ c.if-not-is_fed.true))
    ∙ sym c.loop-port.invariant

pub loop-port-preserved : goal.loop-port-preserved
loop-port-preserved c = c.loop-port.invariant ∙ skipped _ (λ e. (e.0, step_input_view e.1)) c.as_slice-port-items.result.now c.loop-port.port-index c.loop-port-item.result c.loop-port-test.true c.loop-port-item.is (links-quiet (flow_view c.args.flow.now) (at_input c.args.name.now c.args.step_name.now c.loop-port-item.result.0) (feed_view c.loop-port-item.result.1.from) (sym c.is_fed.ensures ∙ c.if-not-is_fed.false))

pub returns : goal.returns
returns c = sym (c.loop-port.invariant ∙ ended _ (λ e. (e.0, step_input_view e.1)) c.as_slice-port-items.result.now c.loop-port.port-index c.loop-port-test.false)
