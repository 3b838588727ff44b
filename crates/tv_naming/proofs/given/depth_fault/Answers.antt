use Rattle.std.proofs.Common.{◌∙◌, ap, sym, refl, option_map}
use Rattle.tv_naming.specs.FaultViews.{fault_view}
use Rattle.tv_value.specs.Views.{view as value_view}
use Rattle.tv_naming.proofs.Firsts.{skipped, stopped, ended}
use Rattle.tv_naming.proofs.given.depth_fault.Goals as goal

pub loop-name-init : goal.loop-name-init
loop-name-init c = rw c.as_slice-name-items.ensures refl

pub returns-in-Some : goal.returns-in-Some
returns-in-Some c =
    stopped _ (λ e. (e.0, value_view e.1)) c.as_slice-name-items.result.now c.loop-name.name-index c.loop-name-item.result _ c.loop-name-test.true c.loop-name-item.is (ap (option_map fault_view) (sym c.in-Some.is) ∙ c.in_ok-fault.ensures)
    ∙ sym c.loop-name.invariant

pub loop-name-preserved : goal.loop-name-preserved
loop-name-preserved c = c.loop-name.invariant ∙ skipped _ (λ e. (e.0, value_view e.1)) c.as_slice-name-items.result.now c.loop-name.name-index c.loop-name-item.result c.loop-name-test.true c.loop-name-item.is (ap (option_map fault_view) (sym c.in_default.is) ∙ c.in_ok-fault.ensures)

pub returns : goal.returns
returns c = sym (c.loop-name.invariant ∙ ended _ (λ e. (e.0, value_view e.1)) c.as_slice-name-items.result.now c.loop-name.name-index c.loop-name-test.false)
