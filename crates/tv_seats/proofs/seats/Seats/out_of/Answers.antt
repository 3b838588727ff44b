use Rattle.std.proofs.Common.{◌<◌, ap, subst, sym, ◌∙◌, length}
use Rattle.tv_seats.specs.Seats.{Seated, count_at}
use Rattle.tv_seats.specs.Stages.{is_out}
use Rattle.tv_seats.proofs.Looking.{kept-of}
use Rattle.tv_seats.proofs.seats.Seats.out_of.Goals as goal

pub returns : goal.returns
returns c =
    let r = c.self.inside in
    let k = c.args.step in
    let inside = subst (λ (v : Seated). k < length v.levels) (sym c.self.view_is) c.requires in
    (kept-of r.table r.steps.items r.out c.self.invariant k c.index.result.now inside c.index.ensures).out
    ∙ ap (λ (v : Seated). count_at is_out k v.seats) c.self.view_is
