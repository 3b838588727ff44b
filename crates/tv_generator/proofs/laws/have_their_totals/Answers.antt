use Rattle.tv_generator.proofs.totals.Counted.{have-their-totals}
use Rattle.tv_generator.proofs.laws.have_their_totals.Goals as goal

pub returns : goal.returns
returns c = have-their-totals
