use Rattle.std.specs.Prelude.{◌≡◌, map, take}
use Rattle.tv_flow.specs.Views.{activity_view}
use Rattle.tv_dispatch.specs.Plans.{kind_of}
use Rattle.tv_run.proofs.plans.kinds_of.Given as goal

abbrev pub invariant-loop-activity : goal.invariant-loop-activity
invariant-loop-activity l = l.kinds.items ≡ map kind_of (map activity_view (take l.activity-index l.activities))
