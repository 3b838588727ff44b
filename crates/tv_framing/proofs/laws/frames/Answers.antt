use Rattle.tv_framing.proofs.LawLemmas.{frames-are_possible, frames-go_on, results-are_legal, taking-makes_none_known}
use Rattle.tv_framing.proofs.laws.frames.Goals as goal

pub returns : goal.returns
returns c = record { go_on = frames-go_on; results = results-are_legal; taking = taking-makes_none_known; possible = frames-are_possible }
