use Rattle.tv_forest.proofs.seats.Entries.{handed_out-again, handed_out-first, job-settles, put_aside, tried_again}
use Rattle.tv_forest.proofs.laws.seats.seats_of_jobs.Goals as goal

pub returns : goal.returns
returns c = record {
  first = handed_out-first;
  again = handed_out-again;
  settles = job-settles;
  tried = tried_again;
  aside = put_aside;
}
