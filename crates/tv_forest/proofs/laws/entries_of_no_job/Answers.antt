use Rattle.tv_forest.proofs.Entries.{level-settling}
use Rattle.tv_forest.proofs.Recalls.{recalling}
use Rattle.tv_forest.proofs.laws.entries_of_no_job.Goals as goal

pub returns : goal.returns
returns c = record { levels = level-settling; recalls = recalling }
