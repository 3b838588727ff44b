use Rattle.std.proofs.Common.{◌≡◌, take, [], flat_map}
use Rattle.std.specs.Prelude.{◌==◌}
use Rattle.tv_flow.specs.DocumentViews.{document_view}
use Rattle.tv_check.specs.Depthwise.{flow_complaints}
use Rattle.tv_check.specs.Measured.{IsProgress, flow_nesting}
use Rattle.tv_check.proofs.Progress.{only}
use Rattle.tv_check.proofs.depths.nested_measured.Given as goal

-- the flows of this nesting so far are measured, and nothing is said of them
abbrev pub invariant-loop-number : goal.invariant-loop-number
invariant-loop-number l =
    let d = document_view l.document in
    record {
      progress : IsProgress d l.measured.items l.nesting l.number;
      told : flat_map (only (λ f. flow_nesting d f.0 == l.nesting) (flow_complaints d)) (take l.number d.flows) ≡ [];
    }
