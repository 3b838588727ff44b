use Rattle.tv_dispatch.proofs.Judged.{right-given}
use Rattle.tv_dispatch.proofs.laws.right_values_are_given.Goals as goal

pub returns : goal.returns
returns c = right-given
