use Rattle.std.specs.Prelude.{◌≡◌, map, take}
use Rattle.tv_value.specs.Values.{holds_fault}
use Rattle.tv_cell.specs.PieceValues.{piece_values}
use Rattle.tv_frame.proofs.frame.find_faults.Given as goal

abbrev pub invariant-loop-piece : goal.invariant-loop-piece
invariant-loop-piece l = l.faults.items ≡ map holds_fault (piece_values (take l.piece-index l.inputs))
