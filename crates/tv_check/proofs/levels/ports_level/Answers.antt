use Rattle.tv_flow.specs.Views.{each, flow_view, step_input_view, step_view}
use Rattle.tv_naming.specs.Faulty.{at_input}
use Rattle.tv_naming.proofs.FormedParts.{step-outputs}
use Rattle.tv_check.proofs.LevelLemmas.{within}
use Rattle.tv_check.proofs.levels.ports_level.Goals as goal

pub step_level-requires-clause-within : goal.step_level-requires-clause-within
step_level-requires-clause-within c = within (flow_view c.args.flow.now) c.args.levels.now (λ i. at_input c.args.name.now c.args.step_name.now i.0) (each step_input_view c.args.step.now.inputs) c.in_ok-inputs_fed.ensures

pub outputs_within-requires-clause-outputs : goal.outputs_within-requires-clause-outputs
outputs_within-requires-clause-outputs c = step-outputs (step_view c.args.step.now) c.requires.step.formed
