use Rattle.tv_forest.proofs.runs.Starts.{inputs-are_in_order, main-starts}
use Rattle.tv_forest.proofs.laws.runs.main_starts.Goals as goal

pub returns : goal.returns
returns c = record { starts = main-starts; inputs = inputs-are_in_order }
