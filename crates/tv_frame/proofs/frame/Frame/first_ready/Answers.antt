use Rattle.std.proofs.Common.{refl, subst, sym}
use Rattle.tv_framing.specs.turns.FirstReady.{IsFirstReady}
use Rattle.tv_frame.specs.Tables.{levels_in}
use Rattle.tv_frame.proofs.Ready.{first-after_one, first-of_all}
use Rattle.tv_frame.proofs.frame.Frame.first_ready.Goals as goal

pub returns-in-Some-clause-first : goal.returns-in-Some-clause-first
returns-in-Some-clause-first c = λ flows v k.
    let s = c.job-step.result in
    subst (λ a. IsFirstReady (levels_in v.flow) v a c.first_in_turn.result) (sym c.in-Some.is)
    (first-after_one flows c.args.plan.now c.args.pool.now c.args.self.now v k c.in-Some.number s.0 s.1.now c.job-step.ensures.job s.2 c.job-step.ensures.faulty
    c.args.self.now.tables.order.items refl c.first_in_turn.result c.first_in_turn.ensures.turn)

pub returns-in-None-clause-first : goal.returns-in-None-clause-first
returns-in-None-clause-first c = λ flows v k.
    subst (λ a. IsFirstReady (levels_in v.flow) v a c.first_in_turn-in-None.result) (sym c.in-None.is)
    (first-of_all flows c.args.plan.now c.args.pool.now c.args.self.now v k c.args.self.now.tables.order.items refl c.first_in_turn-in-None.result c.first_in_turn-in-None.ensures.turn)
