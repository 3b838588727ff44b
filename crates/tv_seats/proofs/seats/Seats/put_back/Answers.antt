use Rattle.tv_seats.proofs.Moving.{comes-back}
use Rattle.tv_seats.proofs.seats.Seats.put_back.Goals as goal

pub move_seat-requires-clause-may : goal.move_seat-requires-clause-may
move_seat-requires-clause-may c = comes-back _ _ c.args.number c.requires.out
