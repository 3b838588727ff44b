use Rattle.std.proofs.Common.{sym, ◌∙◌}
use Rattle.tv_run.proofs.OverLemmas.{done-is, over-done}
use Rattle.tv_run.proofs.run.OpenRun.is_done.Goals as goal

pub returns-clause-done : goal.returns-clause-done
returns-clause-done c = λ gives st. c.is_some.ensures ∙ done-is gives c.args.self.now st

pub returns-clause-over : goal.returns-clause-over
returns-clause-over c = λ e gives st. over-done gives c.args.self.now (sym c.is_some.ensures ∙ e) st
