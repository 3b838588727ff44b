use Rattle.std.proofs.Common.{◌≡◌}
use Rattle.tv_cell.specs.PieceValues.{piece_value}
use Rattle.tv_cell.specs.Soundness.{IsSound}
use Rattle.tv_binding.specs.Delivered.{wrapped_value}
use Rattle.tv_binding.proofs.wrapping.wrap.Given as goal

abbrev pub invariant-loop : goal.invariant-loop
invariant-loop l = record {
  value : piece_value l.wrapped ≡ wrapped_value l.counter (piece_value l.fn.piece);
  sound : IsSound l.fn.piece → IsSound l.wrapped;
}
