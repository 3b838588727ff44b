use Rattle.std.proofs.Common.{◌≡◌, ◌+◌, suc, drop, get_or, arith, subst, ◌∙◌}
use Rattle.std.proofs.lemmas.List.{drop_all}
use Rattle.tv_telling.specs.endings.Counting.{IsCounting}
use Rattle.tv_telling.proofs.Lowering.{at-next, has-room, lowered, next-inside, some-left}
use Rattle.tv_telling.proofs.endings.endings.Endings.lower_all.Goals as goal

pub lower-requires-clause-left : goal.lower-requires-clause-left
lower-requires-clause-left c =
    let r = c.requires in
    let n = c.loop-step.invariant.counting r.0 r.1.0 r.1.1.0 r.1.1.1.0 r.1.1.1.1 in
    let h = next-inside r.0 r.1.0 r.1.1.0 c.loop-step.self c.args.steps.now c.loop-step.step-index r.1.1.1.0 c.loop-step-test.true n in
    let m = n.left_each in
    omega (arith, h, m)

pub lower-requires-clause-ended : goal.lower-requires-clause-ended
lower-requires-clause-ended c =
    let r = c.requires in
    let n = c.loop-step.invariant.counting r.0 r.1.0 r.1.1.0 r.1.1.1.0 r.1.1.1.1 in
    let h = next-inside r.0 r.1.0 r.1.1.0 c.loop-step.self c.args.steps.now c.loop-step.step-index r.1.1.1.0 c.loop-step-test.true n in
    let m = n.ended_each in
    omega (arith, h, m)

pub lower-requires-clause-whole : goal.lower-requires-clause-whole
lower-requires-clause-whole c =
    let r = c.requires in
    let n = c.loop-step.invariant.counting r.0 r.1.0 r.1.1.0 r.1.1.1.0 r.1.1.1.1 in
    let h = next-inside r.0 r.1.0 r.1.1.0 c.loop-step.self c.args.steps.now c.loop-step.step-index r.1.1.1.0 c.loop-step-test.true n in
    let m = n.whole_each in
    omega (arith, h, m)

pub lower-requires-clause-some : goal.lower-requires-clause-some
lower-requires-clause-some c =
    let r = c.requires in
    let i = c.loop-step.step-index in
    let d = get_or c.args.steps.now i 0 in
    let n = c.loop-step.invariant.counting r.0 r.1.0 r.1.1.0 r.1.1.1.0 r.1.1.1.1 in
    let h = next-inside r.0 r.1.0 r.1.1.0 c.loop-step.self c.args.steps.now i r.1.1.1.0 c.loop-step-test.true n in
    let m = at-next r.0 r.1.0 r.1.1.0 c.loop-step.self c.args.steps.now i r.1.1.1.0 c.loop-step-test.true n in
    some-left r.0 r.1.0 r.1.1.0 c.loop-step.self d (drop (suc i) c.args.steps.now) r.1.1.1.0 m h

pub lower-requires-clause-room : goal.lower-requires-clause-room
lower-requires-clause-room c =
    let r = c.requires in
    let i = c.loop-step.step-index in
    let d = get_or c.args.steps.now i 0 in
    let n = c.loop-step.invariant.counting r.0 r.1.0 r.1.1.0 r.1.1.1.0 r.1.1.1.1 in
    let h = next-inside r.0 r.1.0 r.1.1.0 c.loop-step.self c.args.steps.now i r.1.1.1.0 c.loop-step-test.true n in
    let m = at-next r.0 r.1.0 r.1.1.0 c.loop-step.self c.args.steps.now i r.1.1.1.0 c.loop-step-test.true n in
    let room = has-room r.0 r.1.0 r.1.1.0 c.loop-step.self d (drop (suc i) c.args.steps.now) r.1.1.1.0 m h in
    omega (arith, room)

pub loop-step-preserved : goal.loop-step-preserved
loop-step-preserved c =
    let i = c.loop-step.step-index in
    let d = get_or c.args.steps.now i 0 in
    let e : suc i ≡ i + 1 = omega arith in
    record {
      counting = λ after dependents was k g.
          let n = c.loop-step.invariant.counting after dependents was k g in
          let h = next-inside after dependents was c.loop-step.self c.args.steps.now i k c.loop-step-test.true n in
          let m = at-next after dependents was c.loop-step.self c.args.steps.now i k c.loop-step-test.true n in
          subst (λ j. IsCounting after dependents was c.lower.new.self (drop j c.args.steps.now) k) e
          (lowered after dependents was c.loop-step.self c.lower.new.self d (drop (suc i) c.args.steps.now) k m h
          (record { left = c.lower.ensures.left; ended = c.lower.ensures.ended; fresh = c.lower.ensures.fresh; room = c.lower.ensures.room; whole = c.lower.ensures.whole; growing = c.lower.ensures.growing }));
      whole = c.lower.ensures.whole ∙ c.loop-step.invariant.whole;
    }

pub returns-clause-counting : goal.returns-clause-counting
returns-clause-counting c after dependents was k g =
    subst (λ ns. IsCounting after dependents was c.loop-step.self ns k) (drop_all c.loop-step.step-index c.args.steps.now c.loop-step-test.false) (c.loop-step.invariant.counting after dependents was k g)
