use Rattle.std.proofs.Common.{◌≡◌, ◌+◌, map, take}
use Rattle.tv_value.specs.Values.{fault_value}
use Rattle.tv_cell.specs.Found.{document_of, with_depth as of_depth}
use Rattle.tv_cell.specs.PieceValues.{piece_value, piece_values}
use Rattle.tv_cell.specs.Soundness.{AreSound}
use Rattle.tv_frame.proofs.rooms.with_depths.Given as goal

abbrev pub invariant-loop-declared : goal.invariant-loop-declared
invariant-loop-declared l = record {
  sound : AreSound l.pieces.items;
  values : piece_values l.pieces.items ≡ map (λ o. fault_value (of_depth (l.left + o.1) (document_of (piece_value l.fault)))) (take l.declared-index l.outputs);
}
