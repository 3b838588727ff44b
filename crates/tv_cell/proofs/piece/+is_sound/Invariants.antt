use Rattle.std.proofs.Common.{◌≡◌, true, take}
use Rattle.std.specs.List.{list_all}
use Rattle.tv_cell.specs.Soundness.{is_sound}
use Rattle.tv_cell.proofs.piece.+is_sound.Given as goal

abbrev pub invariant-all_sound-loop-piece : goal.invariant-all_sound-loop-piece
invariant-all_sound-loop-piece l = list_all is_sound (take l.piece-index l.pieces) ≡ true
