use Rattle.tv_value.proofs.Sameness.{test-decides}
use Rattle.tv_value.proofs.laws.sameness.Goals as goal

pub returns : goal.returns
returns c = test-decides
