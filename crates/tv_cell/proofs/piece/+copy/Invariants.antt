use Rattle.std.proofs.Common.{◌≡◌, take}
use Rattle.tv_cell.proofs.piece.+copy.Given as goal

abbrev pub invariant-copies-loop-piece : goal.invariant-copies-loop-piece
invariant-copies-loop-piece l = l.copies.items ≡ take l.piece-index l.pieces
