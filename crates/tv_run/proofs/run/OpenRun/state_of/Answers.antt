use Rattle.std.proofs.Common.{◌∙◌, sym}
use Rattle.tv_run.proofs.States.{no-state}
use Rattle.tv_run.proofs.run.OpenRun.state_of.Goals as goal

pub returns-in-None : goal.returns-in-None
returns-in-None c = λ gives s.
    sym (no-state gives c.args.self.now s.0 s.1 c.args.job (sym c.stage_of.ensures ∙ c.in-None.is))
