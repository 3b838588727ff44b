use Rattle.tv_forest.proofs.views.LawLemmas.{ready-is_told, taken-is_running}
use Rattle.tv_forest.proofs.laws.views.going_of_jobs.Goals as goal

pub returns : goal.returns
returns c = record { ready = ready-is_told; taken = taken-is_running }
