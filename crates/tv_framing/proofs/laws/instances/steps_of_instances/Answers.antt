use Rattle.tv_framing.proofs.instances.LawLemmas.{nodes-are_own}
use Rattle.tv_framing.proofs.instances.Levels.{steps-have_their_levels}
use Rattle.tv_framing.proofs.laws.instances.steps_of_instances.Goals as goal

pub returns : goal.returns
returns c = record { nodes = nodes-are_own; levels = steps-have_their_levels }
