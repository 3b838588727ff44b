use Rattle.std.proofs.Common.{◌∙◌}
use Rattle.tv_run.proofs.Live.{none-live}
use Rattle.tv_run.proofs.run.OpenRun.live.Goals as goal

-- src/outputs.rt:107:5
pub returns-clause-done : goal.returns-clause-done
returns-clause-done c gives st done = c.live.ensures ∙ none-live gives c.args.self.now st done
