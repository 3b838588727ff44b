use Rattle.tv_forest.proofs.firsts.Ends.{nothing-at_end}
use Rattle.tv_forest.proofs.firsts.Histories.{nothing-left, opening-is_legal}
use Rattle.tv_forest.proofs.firsts.Quiet.{quiet-by_instances}
use Rattle.tv_forest.proofs.laws.firsts.opening.Goals as goal

pub returns : goal.returns
returns c = record { quiet = quiet-by_instances; legal = opening-is_legal; left = nothing-left; at_end = nothing-at_end }
