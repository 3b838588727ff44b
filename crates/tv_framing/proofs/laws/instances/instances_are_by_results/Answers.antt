use Rattle.tv_framing.proofs.instances.Meant.{own_results-are_of_depth}
use Rattle.tv_framing.proofs.instances.Results.{steps-by_results}
use Rattle.tv_framing.proofs.laws.instances.instances_are_by_results.Goals as goal

pub returns : goal.returns
returns c = record { steps = steps-by_results; depths = own_results-are_of_depth }
