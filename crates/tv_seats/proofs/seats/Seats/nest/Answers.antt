use Rattle.tv_seats.proofs.Moving.{opens}
use Rattle.tv_seats.proofs.seats.Seats.nest.Goals as goal

pub move_seat-requires-clause-may : goal.move_seat-requires-clause-may
move_seat-requires-clause-may c = opens c.args.instance _ c.args.number c.requires.may
