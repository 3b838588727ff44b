use Rattle.std.specs.Prelude.{length}
use Rattle.tv_instances.specs.Turns.{TakeIn}
use Rattle.tv_instances.proofs.Seating.{AreSitting}
use Rattle.tv_instances.proofs.open.seat_new.Given as goal

abbrev pub invariant-loop-number : goal.invariant-loop-number
invariant-loop-number l =
    AreSitting l.frame l.initial.seats l.seats l.number
    × TakeIn l.initial.turns l.turns (length l.initial.seats.seats) l.seats.seats
