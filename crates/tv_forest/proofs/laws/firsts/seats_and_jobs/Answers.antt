use Rattle.tv_forest.proofs.firsts.Instances.{jobs-have_seats, seats-have_jobs}
use Rattle.tv_forest.proofs.laws.firsts.seats_and_jobs.Goals as goal

pub returns : goal.returns
returns c = record { jobs = seats-have_jobs; seats = jobs-have_seats }
