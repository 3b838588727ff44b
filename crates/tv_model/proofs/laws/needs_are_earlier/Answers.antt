use Rattle.tv_model.proofs.Instances.{needs-earlier}
use Rattle.tv_model.proofs.laws.needs_are_earlier.Goals as goal

pub returns : goal.returns
returns c = λ gives inside instance flow vs. needs-earlier gives inside instance flow vs
