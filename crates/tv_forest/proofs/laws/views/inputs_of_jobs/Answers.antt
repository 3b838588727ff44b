use Rattle.tv_forest.proofs.views.LawLemmas.{inputs-are_told, placed_jobs-are_jobs}
use Rattle.tv_forest.proofs.laws.views.inputs_of_jobs.Goals as goal

pub returns : goal.returns
returns c = record { placed = placed_jobs-are_jobs; inputs = inputs-are_told }
