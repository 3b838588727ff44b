use Rattle.tv_forest.proofs.runs.Settled.{accepting-settles, bouncing-settles, ending-settles, openers-are_good, settled-goes_on}
use Rattle.tv_forest.proofs.laws.runs.settled_jobs_gave.Goals as goal

pub returns : goal.returns
returns c = record {
  settled = settled-goes_on;
  accepting = accepting-settles;
  bouncing = bouncing-settles;
  ending = ending-settles;
  openers = openers-are_good;
}
