use Rattle.tv_forest.proofs.views.LawLemmas.{begun-is_known, jobs-are_somewhere, known_jobs-are_there}
use Rattle.tv_forest.proofs.laws.views.jobs_of_the_run.Goals as goal

pub returns : goal.returns
returns c = record { known = known_jobs-are_there; begun = begun-is_known; somewhere = jobs-are_somewhere }
