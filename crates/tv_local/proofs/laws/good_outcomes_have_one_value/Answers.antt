use Rattle.tv_local.proofs.Single.{good-single}
use Rattle.tv_local.proofs.laws.good_outcomes_have_one_value.Goals as goal

pub returns : goal.returns
returns c = good-single
