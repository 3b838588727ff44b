use Rattle.tv_seats.proofs.Moving.{goes-out}
use Rattle.tv_seats.proofs.seats.Seats.hand_out.Goals as goal

pub move_seat-requires-clause-may : goal.move_seat-requires-clause-may
move_seat-requires-clause-may c = goes-out c.args.activity c.args.attempt _ c.args.number c.requires
