use Rattle.tv_forest.proofs.seats.Ends.{ends-settled}
use Rattle.tv_forest.proofs.seats.Runs.{level_settles, recalled_all}
use Rattle.tv_forest.proofs.laws.seats.seats_of_runs.Goals as goal

pub returns : goal.returns
returns c = record { levels = level_settles; recalls = recalled_all; ends = ends-settled }
