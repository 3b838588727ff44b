use Rattle.tv_generator.proofs.Computed.{summary_of_ten}
use Rattle.tv_generator.proofs.laws.worked_summary.Goals as goal

pub returns : goal.returns
returns c = summary_of_ten
