use Rattle.std.proofs.Common.{◌≡◌, ◌<◌, length, subst, sym}
use Rattle.tv_seats.specs.Seats.{IsFree, Seated, levels_of}
use Rattle.tv_seats.proofs.Sitting.{kept-sat}
use Rattle.tv_seats.proofs.seats.Seats.sit.Goals as goal

pub invariant_of-self : goal.invariant_of-self
invariant_of-self c =
    let r = c.self.inside in
    let k = c.args.step in
    let q = c.args.place.now in
    kept-sat r.table c.push.new.self r.steps.items r.out k q c.push.ensures.seats c.push.ensures.widest c.push.ensures.room
    (subst (λ (v : Seated). 0 < v.room) (sym c.self.view_is) c.requires.room)
    (subst (λ (v : Seated). k < length v.levels) (sym c.self.view_is) c.requires.step)
    (subst (λ (v : Seated). length q ≡ levels_of v.levels k) (sym c.self.view_is) c.requires.levels)
    (subst (λ (v : Seated). IsFree v.seats k q) (sym c.self.view_is) c.requires.free)
    c.self.invariant
