use Rattle.tv_telling.proofs.WholePorts.{all-end}
use Rattle.tv_telling.proofs.endings.laws.whole_steps_end.Goals as goal

pub returns : goal.returns
returns c = all-end
