use Rattle.std.proofs.Common.{◌∙◌, ap, sym, refl, option_map}
use Rattle.tv_naming.specs.FaultViews.{fault_view}
use Rattle.tv_flow.specs.Views.{activity_view}
use Rattle.tv_naming.proofs.Firsts.{numbered_skipped, numbered_stopped, numbered_ended}
use Rattle.tv_naming.proofs.naming.activities_fault.Goals as goal

pub loop-position-init : goal.loop-position-init
loop-position-init g c = rw c.as_slice-activity-items.ensures refl

pub returns-in-Some : goal.returns-in-Some
returns-in-Some g c =
    numbered_stopped _ (activity_view) c.as_slice-activity-items.result.now c.loop-position.position c.activity-item.result _ c.loop-position-test.true c.activity-item.is (ap (option_map fault_view) (sym c.in-Some.is) ∙ c.in_ok-fault.ensures)
    ∙ sym c.loop-position.invariant

pub loop-position-preserved : goal.loop-position-preserved
loop-position-preserved g c = c.loop-position.invariant ∙ numbered_skipped _ (activity_view) c.as_slice-activity-items.result.now c.loop-position.position c.activity-item.result c.loop-position-test.true c.activity-item.is (ap (option_map fault_view) (sym c.in_default.is) ∙ c.in_ok-fault.ensures)

pub returns : goal.returns
returns g c = sym (c.loop-position.invariant ∙ numbered_ended _ (activity_view) c.as_slice-activity-items.result.now c.loop-position.position c.loop-position-test.false)
