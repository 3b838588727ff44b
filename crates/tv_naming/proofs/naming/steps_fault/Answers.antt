use Rattle.std.proofs.Common.{◌∙◌, ap, sym, refl, option_map, get_or, length, subst, ◌<◌}
use Rattle.tv_naming.specs.FaultViews.{fault_view}
use Rattle.tv_flow.specs.Views.{step_view}
use Rattle.tv_naming.proofs.Kept.{step-at}
use Rattle.tv_naming.proofs.Firsts.{skipped, stopped, ended}
use Rattle.tv_naming.proofs.naming.steps_fault.Goals as goal

pub loop-step_name-init : goal.loop-step_name-init
loop-step_name-init g c = rw c.as_slice-step_name-items.ensures refl

pub step_fault-requires : goal.step_fault-requires
step_fault-requires g c =
    let f = c.args.flow.now in
    let i = c.loop-step_name.step_name-index in
    let x = c.loop-step_name-item.result in
    let lt = subst (λ ss. i < length ss) c.as_slice-step_name-items.ensures c.loop-step_name-test.true in
    (c.type_bounds.send-V, (c.type_bounds.sync-V, (c.requires, rw (c.loop-step_name-item.is ∙ ap (λ ss. get_or ss i x) c.as_slice-step_name-items.ensures) (step-at f i x c.requires lt))))

pub returns-in-Some : goal.returns-in-Some
returns-in-Some g c =
    stopped _ (λ e. (e.0, step_view e.1)) c.as_slice-step_name-items.result.now c.loop-step_name.step_name-index c.loop-step_name-item.result _ c.loop-step_name-test.true c.loop-step_name-item.is (ap (option_map fault_view) (sym c.in-Some.is) ∙ c.in_ok-fault.ensures)
    ∙ sym c.loop-step_name.invariant

pub loop-step_name-preserved : goal.loop-step_name-preserved
loop-step_name-preserved g c = c.loop-step_name.invariant ∙ skipped _ (λ e. (e.0, step_view e.1)) c.as_slice-step_name-items.result.now c.loop-step_name.step_name-index c.loop-step_name-item.result c.loop-step_name-test.true c.loop-step_name-item.is (ap (option_map fault_view) (sym c.in_default.is) ∙ c.in_ok-fault.ensures)

pub returns : goal.returns
returns g c = sym (c.loop-step_name.invariant ∙ ended _ (λ e. (e.0, step_view e.1)) c.as_slice-step_name-items.result.now c.loop-step_name.step_name-index c.loop-step_name-test.false)
