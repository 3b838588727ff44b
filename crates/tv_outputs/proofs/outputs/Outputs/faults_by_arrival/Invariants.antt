use Rattle.std.proofs.Common.{◌≡◌, ◌+◌, slice_index_or}
use Rattle.tv_parts.specs.Changes.{arrive}
use Rattle.tv_cell.specs.PieceValues.{piece_values}
use Rattle.tv_outputs.specs.Known.{known, tree_in}
use Rattle.tv_outputs.specs.Changes.{Counted, no_value}
use Rattle.tv_outputs.proofs.outputs.Outputs.faults_by_arrival.Given as goal

abbrev pub invariant-loop-piece : goal.invariant-loop-piece
invariant-loop-piece l = record {
  number : l.number ≡ l.fn.first + l.piece-index;
  counted : Counted l.piece-index l.place l.fn.faults.items l.faults.items (λ k. arrive l.place (slice_index_or (piece_values l.pieces) k no_value) (tree_in (known l.pool l.self) (l.fn.first + k)));
}
