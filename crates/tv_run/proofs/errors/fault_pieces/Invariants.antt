use Rattle.std.proofs.Common.{◌≡◌, map, take}
use Rattle.tv_value.specs.Values.{fault_value}
use Rattle.tv_value.specs.Views.{view}
use Rattle.tv_cell.specs.Found.{document_of, with_depth}
use Rattle.tv_cell.specs.PieceValues.{piece_values}
use Rattle.tv_cell.specs.Soundness.{AreSound}
use Rattle.tv_run.proofs.errors.fault_pieces.Given as goal

abbrev pub invariant-loop-output : goal.invariant-loop-output
invariant-loop-output l =
    AreSound l.pieces.items
    × (piece_values l.pieces.items ≡ map (λ o. fault_value (with_depth o.1 (document_of (view l.cell)))) (take l.output-index l.outputs))
