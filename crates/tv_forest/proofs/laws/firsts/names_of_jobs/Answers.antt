use Rattle.tv_forest.proofs.firsts.Flows.{flows-by_names}
use Rattle.tv_forest.proofs.firsts.Names.{jobs-by_numbers, names-of_instances, names-stay}
use Rattle.tv_forest.proofs.laws.firsts.names_of_jobs.Goals as goal

pub returns : goal.returns
returns c = record {
  names = names-of_instances;
  jobs = jobs-by_numbers;
  stay = names-stay;
  flows = flows-by_names;
}
