use Rattle.std.proofs.Common.{◌≡◌, take, [], flat_map}
use Rattle.tv_flow.specs.DocumentViews.{document_view}
use Rattle.tv_flow.specs.Views.{step_view}
use Rattle.tv_check.specs.Depthwise.{nested_complaints}
use Rattle.tv_naming.specs.Naming.{numbered}
use Rattle.tv_check.proofs.nested.activities_fit.Given as goal

-- nothing is said of the activities so far
abbrev pub invariant-loop-position : goal.invariant-loop-position
invariant-loop-position l =
    flat_map (nested_complaints (document_view l.document) l.name l.step_name (step_view l.step)) (take l.position (numbered 0 (step_view l.step).activities)) ≡ []
