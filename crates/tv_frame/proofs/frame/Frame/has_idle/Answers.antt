use Rattle.std.proofs.Common.{◌<◌, subst, sym}
use Rattle.tv_frame.proofs.ReadySteps.{idle-so}
use Rattle.tv_frame.proofs.frame.Frame.has_idle.Goals as goal

pub has_idle-requires : goal.has_idle-requires
has_idle-requires c = subst (λ m. c.args.step < m) (sym c.requires.4.idle_are.as_many) c.requires.5

pub returns : goal.returns
returns c = λ plan pool flows v s k at. idle-so flows plan pool c.args.self.now v k c.args.step s at c.has_idle.result (sym c.has_idle.ensures)
