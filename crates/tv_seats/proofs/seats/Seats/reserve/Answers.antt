use Rattle.tv_seats.proofs.Keeping.{roomy-kept}
use Rattle.tv_seats.proofs.seats.Seats.reserve.Goals as goal

pub invariant_of-self : goal.invariant_of-self
invariant_of-self c =
    let r = c.self.inside in
    let e = c.reserve.ensures in
    roomy-kept r.table c.reserve.new.self r.steps.items r.out e.seats e.widest e.numbers c.self.invariant
