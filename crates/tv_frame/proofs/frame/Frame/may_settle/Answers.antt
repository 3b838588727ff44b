use Rattle.std.proofs.Common.{◌<◌, ◌∙◌, subst, sym}
use Rattle.tv_frame.proofs.Ready.{sound-there, steps-there}
use Rattle.tv_frame.proofs.ReadySteps.{settles-so}
use Rattle.tv_frame.proofs.frame.Frame.may_settle.Goals as goal

pub may_settle-requires-clause-sound : goal.may_settle-requires-clause-sound
may_settle-requires-clause-sound c = sound-there c.requires.0 c.args.plan.now c.args.pool.now c.args.self.now c.requires.1 c.requires.2

pub may_settle-requires-clause-step : goal.may_settle-requires-clause-step
may_settle-requires-clause-step c =
    subst (λ m. c.args.step < m) (sym c.requires.2.idle_are.as_many ∙ steps-there c.requires.0 c.args.plan.now c.args.pool.now c.args.self.now c.requires.1 c.requires.2) c.requires.3

pub returns : goal.returns
returns c = λ flows v s k at. c.may_settle.ensures ∙ settles-so flows c.args.plan.now c.args.pool.now c.args.self.now v k c.args.step s at
