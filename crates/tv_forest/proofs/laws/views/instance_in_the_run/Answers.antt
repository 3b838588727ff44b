use Rattle.tv_forest.proofs.views.LawLemmas.{instances-end_as_told, levels-settle_as_told, outputs-are_meant, outputs-are_results}
use Rattle.tv_forest.proofs.laws.views.instance_in_the_run.Goals as goal

pub returns : goal.returns
returns c = record {
  ends = instances-end_as_told;
  settles = levels-settle_as_told;
  outputs = outputs-are_meant;
  results = outputs-are_results;
}
