use Rattle.tv_framing.proofs.faults.LawLemmas.{jobs-hold_what_is_said}
use Rattle.tv_framing.proofs.laws.faults.jobs.Goals as goal

pub returns : goal.returns
returns c = jobs-hold_what_is_said
