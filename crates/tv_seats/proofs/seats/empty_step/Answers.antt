use Rattle.std.proofs.Common.{arith, subst, sym}
use Rattle.tv_seats.specs.Starts.{EmptiesStep}
use Rattle.tv_seats.proofs.Starting.{end-empties, set-empties}
use Rattle.tv_seats.proofs.seats.empty_step.Goals as goal

pub returns-then-number-len : goal.returns-then-number-len
returns-then-number-len c =
    let xs = c.args.steps.now in
    set-empties c.args.number c.args.levels xs.items c.restart.new.self c.restart.ensures
    (omega (arith, c.if-number-len.true, c.len.ensures, xs.ok.0))

pub returns-in_ok-push : goal.returns-in_ok-push
returns-in_ok-push c =
    let xs = c.args.steps.now in
    subst (EmptiesStep c.args.number c.args.levels xs.items) (sym c.in_ok-push.ensures.items)
    (end-empties c.args.number c.args.levels xs.items c.new.result c.new.ensures
    (omega (arith, c.if-number-len.false, c.requires, c.len.ensures, xs.ok.0)))
