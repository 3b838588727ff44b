use Rattle.std.specs.Prelude.{◌≡◌, drop, map}
use Rattle.tv_flow.specs.Views.{activity_view}
use Rattle.tv_model.specs.Opening.{first_nested}
use Rattle.tv_run.proofs.plans.opened_by.Given as goal

abbrev pub invariant-loop-activity : goal.invariant-loop-activity
invariant-loop-activity l =
    first_nested (map activity_view l.activities) ≡ first_nested (map activity_view (drop l.activity-index l.activities))
