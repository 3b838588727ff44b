use Rattle.tv_flow.specs.Views.{step_view}
use Rattle.tv_naming.proofs.FormedParts.{step-outputs}
use Rattle.tv_check.proofs.delivered.step_depth.Goals as goal

pub port_depth-requires-clause-outputs : goal.port_depth-requires-clause-outputs
port_depth-requires-clause-outputs c = step-outputs (step_view c.args.step.now) c.requires.step
