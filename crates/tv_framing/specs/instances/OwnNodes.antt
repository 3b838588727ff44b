-- What is so of every node that a step of an instance has or waits for.
use Rattle.tv_strategy.specs.Origins.{Origin}
use Rattle.tv_lemmas.specs.Members.{Each}
use Rattle.tv_strategy.specs.Sources.{AtNodes, SourcesHave}
use Rattle.tv_model.specs.instance.ByResults.{InstanceStep}

-- P holds of the nodes of its outputs, of the sources of its iteration and of its ending
pub record NodesHave (P : Origin → Type 0) (f : InstanceStep) : Type 0 where
  pub outputs : Each (λ d. AtNodes P d.1.value) f.step.outputs
  pub sources : SourcesHave P f.step.iteration
  pub ending : Each P f.step.ending
