use Rattle.tv_forest.proofs.seats.Entries.{end-settles_job, opened-after_tries, opened_first}
use Rattle.tv_forest.proofs.laws.seats.seats_of_openers.Goals as goal

pub returns : goal.returns
returns c = record { first = opened_first; after_tries = opened-after_tries; ends = end-settles_job }
