use Rattle.tv_traces.proofs.LawLemmas.{records-are_of_main_jobs, stages-go_on}
use Rattle.tv_traces.proofs.laws.stages.Goals as goal

pub returns : goal.returns
returns c = record { next = stages-go_on; records = records-are_of_main_jobs }
