use Rattle.tv_model.proofs.LawLemmas.{jobs-wait, steps-end_whole}
use Rattle.tv_model.proofs.instance.laws.endings.Goals as goal

pub returns : goal.returns
returns c = record { steps = steps-end_whole; jobs = jobs-wait }
