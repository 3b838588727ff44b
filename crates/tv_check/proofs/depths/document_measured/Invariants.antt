use Rattle.std.proofs.Common.{◌≡◌, ◌-◌, take, [], flat_map}
use Rattle.tv_flow.specs.DocumentViews.{document_view}
use Rattle.tv_check.specs.Measured.{IsProgress, nesting_told}
use Rattle.tv_check.proofs.Progress.{all_nestings}
use Rattle.tv_check.proofs.depths.document_measured.Given as goal

-- the flows of the nestings so far are measured, and nothing is said of them
abbrev pub invariant-loop-nesting : goal.invariant-loop-nesting
invariant-loop-nesting l =
    let d = document_view l.document in
    record {
      progress : IsProgress d l.measured.items l.nesting 0;
      told : flat_map (nesting_told d) (take (l.nesting - 1) all_nestings) ≡ [];
    }
