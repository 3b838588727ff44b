use Rattle.tv_framing.proofs.matches.LawLemmas.{flows-stay, frames-start, given-goes_on, known_jobs-are_matched, new_jobs-are_brought}
use Rattle.tv_framing.proofs.laws.matches.jobs.Goals as goal

pub returns : goal.returns
returns c = record { known = known_jobs-are_matched; start = frames-start; new = new_jobs-are_brought; given = given-goes_on; stays = flows-stay }
