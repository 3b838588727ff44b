use Rattle.std.proofs.Common.{◌∙◌, ap, sym, refl, option_map, get_or, length, subst, ◌<◌}
use Rattle.tv_naming.specs.FaultViews.{fault_view}
use Rattle.tv_flow.specs.Views.{flow_view}
use Rattle.tv_naming.proofs.Kept.{flow-at}
use Rattle.tv_naming.proofs.Firsts.{skipped, stopped, ended}
use Rattle.tv_naming.proofs.naming.flows_fault.Goals as goal

pub loop-name-init : goal.loop-name-init
loop-name-init g c = rw c.as_slice-name-items.ensures refl

pub flow_fault-requires : goal.flow_fault-requires
flow_fault-requires g c =
    let d = c.args.document.now in
    let i = c.loop-name.name-index in
    let x = c.loop-name-item.result in
    let lt = subst (λ fs. i < length fs) c.as_slice-name-items.ensures c.loop-name-test.true in
    (c.type_bounds.send-V, (c.type_bounds.sync-V, rw (c.loop-name-item.is ∙ ap (λ fs. get_or fs i x) c.as_slice-name-items.ensures) (flow-at d i x lt)))

pub returns-in-Some : goal.returns-in-Some
returns-in-Some g c =
    stopped _ (λ e. (e.0, flow_view e.1)) c.as_slice-name-items.result.now c.loop-name.name-index c.loop-name-item.result _ c.loop-name-test.true c.loop-name-item.is (ap (option_map fault_view) (sym c.in-Some.is) ∙ c.in_ok-fault.ensures)
    ∙ sym c.loop-name.invariant

pub loop-name-preserved : goal.loop-name-preserved
loop-name-preserved g c = c.loop-name.invariant ∙ skipped _ (λ e. (e.0, flow_view e.1)) c.as_slice-name-items.result.now c.loop-name.name-index c.loop-name-item.result c.loop-name-test.true c.loop-name-item.is (ap (option_map fault_view) (sym c.in_default.is) ∙ c.in_ok-fault.ensures)

pub returns : goal.returns
returns g c = sym (c.loop-name.invariant ∙ ended _ (λ e. (e.0, flow_view e.1)) c.as_slice-name-items.result.now c.loop-name.name-index c.loop-name-test.false)
