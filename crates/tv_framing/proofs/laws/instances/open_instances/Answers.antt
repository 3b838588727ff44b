use Rattle.tv_framing.proofs.instances.LawLemmas.{open_instances-are_told}
use Rattle.tv_framing.proofs.instances.Settling.{settlements-are_legal}
use Rattle.tv_framing.proofs.laws.instances.open_instances.Goals as goal

pub returns : goal.returns
returns c = record { told = open_instances-are_told; settlements = settlements-are_legal }
