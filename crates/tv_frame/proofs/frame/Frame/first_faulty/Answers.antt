use Rattle.std.proofs.Common.{true, None, Some, sym, ◌∙◌}
use Rattle.tv_frame.proofs.JobLemmas.{first-binds}
use Rattle.tv_frame.proofs.ReadyFirst.{first-so}
use Rattle.tv_frame.proofs.frame.Frame.first_faulty.Goals as goal

pub returns-in-Some-clause-first : goal.returns-in-Some-clause-first
returns-in-Some-clause-first c = λ flows v s k at.
    first-so flows c.args.plan.now c.args.pool.now c.args.self.now v k c.args.step s at (sym (c.may_settle.ensures flows v s k at) ∙ c.if-not-may_settle.false)
    true (Some c.in-Some.number) (sym c.in-Some.is ∙ c.first_faulty.ensures)

pub returns-in-None-clause-first : goal.returns-in-None-clause-first
returns-in-None-clause-first c = λ flows v s k at.
    first-so flows c.args.plan.now c.args.pool.now c.args.self.now v k c.args.step s at (sym (c.may_settle.ensures flows v s k at) ∙ c.if-not-may_settle.false)
    true None (sym c.in-None.is ∙ c.first_faulty.ensures)

pub returns-in-Some-clause-binds : goal.returns-in-Some-clause-binds
returns-in-Some-clause-binds c = λ flows v s k at.
    first-binds flows c.args.plan.now c.args.pool.now c.args.self.now v k c.args.step s at true c.in-Some.number
    (first-so flows c.args.plan.now c.args.pool.now c.args.self.now v k c.args.step s at (sym (c.may_settle.ensures flows v s k at) ∙ c.if-not-may_settle.false)
    true (Some c.in-Some.number) (sym c.in-Some.is ∙ c.first_faulty.ensures))
