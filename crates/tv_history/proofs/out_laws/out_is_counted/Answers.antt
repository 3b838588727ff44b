use Rattle.tv_history.proofs.Out.{out-counted}
use Rattle.tv_history.proofs.out_laws.out_is_counted.Goals as goal

pub returns : goal.returns
returns c = λ gives r s e. out-counted gives r s e
