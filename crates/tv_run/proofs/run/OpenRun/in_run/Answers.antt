use Rattle.std.proofs.Common.{IfSome, Some, arith, length, subst, sym, ◌<◌}
use Rattle.tv_run.specs.Jobs.{AreInRun}
use Rattle.tv_run.proofs.WalkNumbers.{jobs-low, number-is}
use Rattle.tv_run.proofs.run.OpenRun.in_run.Goals as goal

pub index-requires-in-Some : goal.index-requires-in-Some
index-requires-in-Some c =
    let w = c.requires in
    let low = jobs-low c.args.self.now w.0 w.2 c.args.instance c.in-Some.number w.1 w.3 c.index.result.now c.index.ensures w.4
    (subst (λ o. IfSome o (λ n. n < length w.1.seats)) c.in-Some.is w.5) in
    omega (arith, low, c.index.result.now.jobs.ok.0)

pub returns-in-Some : goal.returns-in-Some
returns-in-Some c xs x fits at =
    let w = c.requires in
    let r = c.args.self.now in
    let low = jobs-low r w.0 w.2 c.args.instance c.in-Some.number w.1 w.3 c.index.result.now c.index.ensures w.4
    (subst (λ o. IfSome o (λ n. n < length w.1.seats)) c.in-Some.is w.5) in
    subst (λ o. AreInRun r c.args.instance o (Some c.index-in-Some.result.now)) (sym c.in-Some.is)
    (number-is r xs fits c.args.instance c.in-Some.number x at c.index.result.now c.index.ensures low
    c.index-in-Some.result.now c.index-in-Some.ensures)
