use Rattle.std.proofs.Common.{ap}
use Rattle.std.specs.Prelude.{option_map}
use Rattle.tv_value.specs.Values.{Name}
use Rattle.tv_flow.specs.Flows.{Step}
use Rattle.tv_run.proofs.run.OpenRun.step_at.Goals as goal

pub returns : goal.returns
returns c = ap (option_map (λ (s : Name × Step). s.1)) c.named_step.ensures
