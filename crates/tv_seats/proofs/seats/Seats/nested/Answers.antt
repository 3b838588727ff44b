use Rattle.std.proofs.Common.{◌<◌, subst, sym, length}
use Rattle.tv_seats.specs.Nested.{AreNested}
use Rattle.tv_seats.specs.Seats.{Seated}
use Rattle.tv_seats.proofs.Looking.{kept-of, nested-of}
use Rattle.tv_seats.proofs.seats.Seats.nested.Goals as goal

pub returns : goal.returns
returns c =
    let r = c.self.inside in
    let k = c.args.step in
    let inside = subst (λ (v : Seated). k < length v.levels) (sym c.self.view_is) c.requires in
    let y = c.index.result.now in
    subst (AreNested c.args.self.now.seats k) (sym c.as_slice.ensures.value)
    (subst (λ (v : Seated). AreNested v.seats k y.nested.items) c.self.view_is
    (nested-of r.table.seats k y.nested.items (kept-of r.table r.steps.items r.out c.self.invariant k y inside c.index.ensures).nested))
