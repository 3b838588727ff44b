use Rattle.tv_forest.proofs.Entries.{handing-out_again, handing-out_first, settling, trying-again}
use Rattle.tv_forest.proofs.laws.entries_of_jobs.Goals as goal

pub returns : goal.returns
returns c = record { first = handing-out_first; again = handing-out_again; settles = settling; tried = trying-again }
