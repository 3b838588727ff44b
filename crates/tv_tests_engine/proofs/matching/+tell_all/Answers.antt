use Rattle.std.proofs.Common.{◌∙◌, arith}
use Rattle.tv_match.specs.Seen.{matching}
use Rattle.tv_match.proofs.Scripts.{first-leaf, first-new, others-leaves, others-new}
use Rattle.tv_tests_engine.proofs.matching.+tell_all.Goals as goal

pub tell-requires-clause-leaf : goal.tell-requires-clause-leaf
tell-requires-clause-leaf t c = first-leaf (matching c.args.matcher.now).strategy c.args.tolds.now c.in-Some.others.now c.in-Some.first.now c.in-Some.ensures.cases.0 c.requires.leaves

pub tell-requires-clause-new : goal.tell-requires-clause-new
tell-requires-clause-new t c = first-new (matching c.args.matcher.now) c.args.tolds.now c.in-Some.others.now c.in-Some.first.now c.in-Some.ensures.cases.0 c.requires.new

pub tell_all-requires : goal.tell_all-requires
tell_all-requires t c =
    let m = matching c.args.matcher.now in
    let n = matching c.tell.new.matcher in
    let o = matching c.pass_all.new.matcher in
    let p = c.pass_all.ensures in
    let e = c.in_ok-tell.ensures.ok in (
      omega (arith, c.in-Some.ensures.cases.1, c.decreases),
      (
        p.sound,
        (
          others-leaves m.strategy o.strategy c.args.tolds.now c.in-Some.others.now c.in-Some.first.now c.in-Some.ensures.cases.0 (p.strategy ∙ e.strategy_is) c.requires.leaves,
          others-new m n o c.args.tolds.now c.in-Some.others.now c.in-Some.first.now c.in-Some.ensures.cases.0 e p.strategy p.mismatch p.told c.requires.new,
        ),
      ),
    )
