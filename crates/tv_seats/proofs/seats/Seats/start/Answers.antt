use Rattle.std.proofs.Common.{subst, sym}
use Rattle.tv_seats.specs.Kept.{all_levels}
use Rattle.tv_seats.specs.Starts.{AreWithin}
use Rattle.tv_seats.proofs.Starting.{kept-at-start}
use Rattle.tv_seats.proofs.seats.Seats.start.Goals as goal

pub invariant_of-self : goal.invariant_of-self
invariant_of-self c =
    let t = c.clear-in-Ok.new.self in
    let e = c.clear-in-Ok.ensures in
    let i = c.in-Ok.ensures in
    let steps = c.empty_steps.new.steps.items in
    kept-at-start t steps e.seats e.room i.each
    (subst (AreWithin (all_levels steps)) (sym e.widest) i.within)
