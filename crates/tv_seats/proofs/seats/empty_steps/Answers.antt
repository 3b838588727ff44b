use Rattle.std.proofs.Common.{◌<◌, arith, length, sym}
use Rattle.std.proofs.lemmas.List.{take_more}
use Rattle.tv_seats.proofs.Starting.{front-more}
use Rattle.tv_seats.proofs.seats.empty_steps.Goals as goal

pub loop-number-preserved : goal.loop-number-preserved
loop-number-preserved c =
    let l = c.loop-number in
    let ls = c.args.levels.now in
    let n = l.number in
    let low : n < length ls = omega (arith, c.loop-number-test.true) in
    front-more n l.widest c.wider-widest.result _ ls l.steps.items c.empty_step.new.steps.items l.invariant c.in_ok-empty_step.ensures low
    (sym (take_more ls n 0 low)) c.wider-widest.ensures.first c.wider-widest.ensures.second
