use Rattle.tv_seats.proofs.Moving.{settles}
use Rattle.tv_seats.proofs.seats.Seats.settle.Goals as goal

pub move_seat-requires-clause-may : goal.move_seat-requires-clause-may
move_seat-requires-clause-may c = settles _ c.args.number c.requires
