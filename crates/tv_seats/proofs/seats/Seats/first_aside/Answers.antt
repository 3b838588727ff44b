use Rattle.std.proofs.Common.{None, Some, ◌<◌, subst, sym, ◌∙◌, length}
use Rattle.tv_seats.specs.Firsts.{IsFirstAsideOf}
use Rattle.tv_seats.specs.Seats.{Seated}
use Rattle.tv_seats.proofs.Looking.{first-aside-of, kept-of}
use Rattle.tv_seats.proofs.seats.Seats.first_aside.Goals as goal

pub returns-in-Some : goal.returns-in-Some
returns-in-Some c =
    let r = c.self.inside in
    let k = c.args.step in
    let inside = subst (λ (v : Seated). k < length v.levels) (sym c.self.view_is) c.requires in
    let y = c.index.result.now in
    subst (λ (v : Seated). IsFirstAsideOf v.seats k (Some c.in-Some.number)) c.self.view_is
    (first-aside-of r.table.seats k y.aside.jobs (Some c.in-Some.number) (kept-of r.table r.steps.items r.out c.self.invariant k y inside c.index.ensures).aside
    (sym c.in-Some.is ∙ c.first.ensures))

pub returns-in-None : goal.returns-in-None
returns-in-None c =
    let r = c.self.inside in
    let k = c.args.step in
    let inside = subst (λ (v : Seated). k < length v.levels) (sym c.self.view_is) c.requires in
    let y = c.index.result.now in
    subst (λ (v : Seated). IsFirstAsideOf v.seats k None) c.self.view_is
    (first-aside-of r.table.seats k y.aside.jobs None (kept-of r.table r.steps.items r.out c.self.invariant k y inside c.index.ensures).aside
    (sym c.in-None.is ∙ c.first.ensures))
