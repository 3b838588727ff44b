use Rattle.tv_instances.proofs.Faulty.{faulty-first, faulty-none, none-faulty, none-first, none-left, turn-within}
use Rattle.tv_instances.proofs.open.Open.first_to_bounce.Goals as goal

pub going-step-items-requires : goal.going-step-items-requires
going-step-items-requires c = let q = c.requires in (q.0, c.args.plan.now, c.args.pool.now, q.1, q.2)

pub loop-step-init : goal.loop-step-init
loop-step-init c d v io =
    none-first v c.args.self.now.seats.seats c.going-step-items.result.now
    (c.going-step-items.ensures d c.args.plan.now c.args.pool.now v io)

pub first_faulty-requires : goal.first_faulty-requires
first_faulty-requires c =
    let q = c.requires in (
      q.0.flows,
      q.1,
      q.2.keeps,
      turn-within q.0 c.args.plan.now c.args.pool.now c.args.self.now q.1 q.2 c.going-step-items.result.now
          (c.going-step-items.ensures q.0 c.args.plan.now c.args.pool.now q.1 q.2) c.loop-step.step-index c.loop-step-test.true,
    )

pub returns-in-Some : goal.returns-in-Some
returns-in-Some c d v io =
    faulty-first d c.args.plan.now c.args.pool.now c.args.self.now v io c.going-step-items.result.now
    (c.going-step-items.ensures d c.args.plan.now c.args.pool.now v io) c.loop-step.step-index c.loop-step-test.true
    c.first_faulty.result c.in-Some.job c.in-Some.is (λ t at. c.first_faulty.ensures.first d.flows v t io.keeps at)

pub loop-step-preserved : goal.loop-step-preserved
loop-step-preserved c d v io passed same =
    faulty-none d c.args.plan.now c.args.pool.now c.args.self.now v io c.going-step-items.result.now
    (c.going-step-items.ensures d c.args.plan.now c.args.pool.now v io) c.loop-step.step-index c.loop-step-test.true
    c.first_faulty.result c.in_default.is (λ t at. c.first_faulty.ensures.first d.flows v t io.keeps at) passed same
    (c.loop-step.invariant d v io passed same)

pub returns : goal.returns
returns c d v io =
    none-left d c.args.plan.now c.args.pool.now c.args.self.now v io c.going-step-items.result.now
    (c.going-step-items.ensures d c.args.plan.now c.args.pool.now v io) c.loop-step.step-index c.loop-step-test.false
    c.loop-step.invariant

pub returns-then-not-has_faulty : goal.returns-then-not-has_faulty
returns-then-not-has_faulty c d v io =
    none-faulty d c.args.plan.now c.args.pool.now c.args.self.now v io
    (λ k t at.
    c.has_faulty.ensures.none c.if-not-has_faulty.true d.flows c.args.plan.now c.args.pool.now v k t io.keeps at)
