use Rattle.std.specs.Prelude.{ℕ, ◌<◌}
use Rattle.tv_run.specs.Recalling.{HasRoomsIn}
use Rattle.tv_run.proofs.BackRooms.{AreOtherRooms}
use Rattle.tv_run.proofs.run.OpenRun.reserve_all_back.Given as goal

abbrev pub invariant-loop-at : goal.invariant-loop-at
invariant-loop-at l = AreOtherRooms l.initial.self l.self × ((k : ℕ) → k < l.at → HasRoomsIn l.self k)
