use Rattle.tv_forest.proofs.stands.Offers.{steps-of_seats}
use Rattle.tv_forest.proofs.stands.Seats.{jobs-have_seats, seats-are_apart, seats-have_jobs}
use Rattle.tv_forest.proofs.laws.stands.seats_and_jobs.Goals as goal

pub returns : goal.returns
returns c = record { jobs = seats-have_jobs; seats = jobs-have_seats; apart = seats-are_apart; steps = steps-of_seats }
