use Rattle.tv_instances.proofs.Seating.{next-free}
use Rattle.tv_instances.proofs.open.seat_job.Goals as goal

pub sit-number-requires-clause-free : goal.sit-number-requires-clause-free
sit-number-requires-clause-free c =
    next-free c.args.frame.now c.args.seats.now c.requires.can c.args.number
    (c.in-Some.job.step, c.in-Some.job.place.now) c.requires.next c.in-Some.ensures.some
