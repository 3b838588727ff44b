use Rattle.tv_history.proofs.Bounded.{bounded}
use Rattle.tv_history.proofs.Progress.{progress}
use Rattle.tv_history.proofs.laws.histories_end.Goals as goal

pub returns : goal.returns
returns c = record { bounded = λ gives d past. bounded gives d past; goes_on = λ gives d past w. progress gives d w past }
