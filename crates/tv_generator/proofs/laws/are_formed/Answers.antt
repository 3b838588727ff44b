use Rattle.tv_generator.proofs.Form.{are-formed}
use Rattle.tv_generator.proofs.laws.are_formed.Goals as goal

pub returns : goal.returns
returns c = are-formed
