use Rattle.std.proofs.Common.{◌≡◌, false, take}
use Rattle.std.specs.List.{list_any}
use Rattle.tv_value.specs.Values.{holds_fault}
use Rattle.tv_cell.specs.PieceValues.{piece_value}
use Rattle.tv_cell.proofs.piece.+holds_fault.Given as goal

abbrev pub invariant-any_holds_fault-loop-piece : goal.invariant-any_holds_fault-loop-piece
invariant-any_holds_fault-loop-piece l = list_any (λ p. holds_fault (piece_value p)) (take l.piece-index l.pieces) ≡ false
